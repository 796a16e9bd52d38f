use Rattle.std.proofs.Common.{List, ℕ, ap₂, ◌∙◌}
use Rattle.std.specs.List.{list_any}
use Rattle.std.specs.Str.{bytes_eq}
use Rattle.cube_model.specs.Dims.{NamedDimension}
use Rattle.cube_carrying.proofs.Found.{any_named}
use Rattle.cube_carrying.proofs.dimensions.has_dimension.Goals as goal

pub returns : goal.returns
returns c =
    c.any_named.ensures
    ∙ ap₂ (λ (x : List ℕ) (ds : List NamedDimension). list_any (λ d. bytes_eq x d.name) ds) c.name.ensures.name c.dimensions.ensures.dimensions
    ∙ any_named c.args.dimension.now.name c.args.dims.now.dimensions

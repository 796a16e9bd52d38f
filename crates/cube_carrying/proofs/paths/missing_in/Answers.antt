use Rattle.std.proofs.Common.{List, ℕ, ap, ap₂, ◌∙◌}
use Rattle.std.specs.List.{list_any}
use Rattle.cube_model.specs.Dims.{NamedDimension, dimension_at, no_dimension}
use Rattle.cube_model.proofs.Parities.{all_at}
use Rattle.cube_carry.specs.Continues.{same_texts, has_dimension}
use Rattle.cube_carry.specs.Names.{same_dimension}
use Rattle.cube_carry.proofs.Dimensions.{in_at}
use Rattle.cube_carrying.specs.Firsts.{first_failing}
use Rattle.cube_carrying.proofs.paths.missing_in.Goals as goal

pub same_dimension-requires : goal.same_dimension-requires
same_dimension-requires c =
    ap (has_dimension c.args.other.now) c.dimension-dimension.ensures.dimension
    ∙ all_at (has_dimension c.args.other.now) (dimension_at c.args.dims.now c.args.number) c.args.dims.now.dimensions c.requires.all (in_at no_dimension c.args.dims.now.dimensions c.args.number c.requires.number)

pub returns : goal.returns
returns c =
    c.first_missing.ensures
    ∙ ap₂ (λ (e : NamedDimension) (ps : List (List (List ℕ))). first_failing (λ path. list_any (same_texts path) e.paths) ps)
    (c.same_dimension.ensures ∙ ap (same_dimension c.args.other.now) c.dimension-dimension.ensures.dimension)
    (c.paths.ensures.paths ∙ ap (λ (d : NamedDimension). d.paths) c.dimension-dimension.ensures.dimension)

use Rattle.std.proofs.Common.{ℕ, map, ap, ◌∙◌}
use Rattle.std.proofs.lemmas.List.{take_all}
use Rattle.cube_model.specs.Dims.{Dims, NamedDimension}
use Rattle.cube_source.proofs.Keys.{zeros}
use Rattle.cube_carrying.proofs.unkept.finest.Goals as goal

pub returns : goal.returns
returns c =
    let ds = c.dimensions-dimension-items.ensures.dimensions ∙ ap (λ (s : Dims). s.dimensions) c.dims.ensures.dims in
    c.dimensions.invariant ∙ ap (map {B = ℕ} (λ (d : NamedDimension). 0)) (take_all c.dimensions._dimension-index c.dimensions-dimension-items.result.now c.dimensions-test.false ∙ ds) ∙ zeros c.args.core.now.dims.dimensions

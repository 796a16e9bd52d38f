use Rattle.std.proofs.Common.{◌≡◌, length, nat_eq, ◌∙◌, sym, ap, false, arith}
use Rattle.std.proofs.lemmas.Bool.Decides.{nat_tests}
use Rattle.cube_model.specs.Dims.{Dims}
use Rattle.cube_reason.proofs.Levels.{uneven_levels}
use Rattle.cube_reason.proofs.blocks.is_cuboid.Goals as goal

pub returns-else-levels-dimensions : goal.returns-else-levels-dimensions
returns-else-levels-dimensions c =
    let test : nat_eq (length c.args.levels.now) (length c.dimensions-dimensions.result.now) ≡ false = grind (arith, nat_tests, c.if-levels-dimensions.false) in
    let same : c.dimensions-dimensions.result.now ≡ c.args.core.now.dims.dimensions = c.dimensions-dimensions.ensures.dimensions ∙ ap (λ (s : Dims). s.dimensions) c.dims.ensures.dims in
    test ∙ uneven_levels c.args.core.now.dims.dimensions c.args.levels.now (λ e. c.if-levels-dimensions.false (e ∙ ap length (sym same)))

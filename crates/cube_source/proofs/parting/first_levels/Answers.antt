use Rattle.std.proofs.Common.{◌≡◌, true, ap, ◌∙◌}
use Rattle.std.proofs.lemmas.Result.{IfOk-weaker}
use Rattle.cube_model.specs.Cubes.{are_levels, core}
use Rattle.cube_model.specs.Dims.{plains}
use Rattle.cube_source.specs.Blocks.{bare}
use Rattle.cube_source.proofs.Keys.{finest_levels}
use Rattle.cube_source.proofs.parting.first_levels.Goals as goal

pub returns-in-None : goal.returns-in-None
returns-in-None c = IfOk-weaker c.finest.result (λ ls. ls ≡ core (bare c.args.core.now)) (λ ls. are_levels (plains c.args.core.now.dims) ls ≡ true)
    (λ ls e. ap (are_levels (plains c.args.core.now.dims)) e ∙ finest_levels (plains c.args.core.now.dims)) c.finest.ensures

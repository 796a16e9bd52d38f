use Rattle.std.proofs.Common.{◌≡◌, [], Some, sym, ◌∙◌}
use Rattle.cube_model.specs.Cores.{shown}
use Rattle.cube_model.proofs.Histories.{admissible_allowed}
use Rattle.cube_admit.proofs.Standing.{admissible_history}
use Rattle.cube_rollup.specs.Rollups.{kept_at}
use Rattle.cube_engine.proofs.Cuboids.{source_of, kept_in_range}
use Rattle.cube_engine.proofs.rolling.roll.Goals as goal

pub build-requires-clause-levels : goal.build-requires-clause-levels
build-requires-clause-levels g c =
    let public = shown c.args.core.now c.args.policy.now in
    let s = c.args.state.now in
    let at : kept_at public s.history c.args.measure ≡ Some c.in-Some.levels.now = sym (source_of public s c.args.measure c.requires.stands c.requires.measure) ∙ sym c.in-Some.ensures in
    kept_in_range public s.history c.args.measure c.in-Some.levels.now (admissible_allowed public [] s.history (admissible_history public s c.requires.stands)) at

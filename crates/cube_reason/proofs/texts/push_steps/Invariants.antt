use Rattle.std.specs.List.{flat_map}
use Rattle.std.proofs.Common.{◌≡◌, ◌++◌, drop}
use Rattle.cube_source.specs.Blocks.{bare}
use Rattle.cube_reason.specs.ReasonText.{step_line}
use Rattle.cube_reason.proofs.texts.push_steps.Given as goal

abbrev pub invariant-loop-step : goal.invariant-loop-step
invariant-loop-step l = l.text ++ flat_map (step_line l.core.dims (bare l.core)) (drop l.step-index l.steps) ≡ l.fn.text ++ flat_map (step_line l.core.dims (bare l.core)) l.steps

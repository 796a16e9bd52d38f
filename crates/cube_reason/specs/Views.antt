-- A reason of the program as the definitions have it.
use Rattle.std.specs.Prelude.{List, map, Option, Some, None}
use Rattle.cube_model.specs.Reasons as said
use Rattle.cube_model.specs.Reasons.Origin.{By, Own as OwnLink}
use Rattle.cube_model.specs.Reasons.Reason.{Blocks as BlocksOf, Walk as WalkOf}
use Rattle.cube_reason.specs.declared.reasons.End.{End}
use Rattle.cube_reason.specs.declared.reasons.Origin.{Origin}
use Rattle.cube_reason.specs.declared.reasons.Origin.TheVariants.{Entry, Own}
use Rattle.cube_reason.specs.declared.reasons.Reason.{Reason}
use Rattle.cube_reason.specs.declared.reasons.Reason.TheVariants.{Blocks, Walk}
use Rattle.cube_reason.specs.declared.reasons.WalkStep.{WalkStep}
use Rattle.cube_reason.specs.declared.ties.Bringer.{Bringer}
use Rattle.cube_reason.specs.declared.ties.Bringer.TheVariants as bringers

abbrev pub origin_view : Origin → said.Origin
origin_view (Entry n) = By n
origin_view (Own k) = OwnLink k

abbrev pub origin_by : Bringer → Origin
origin_by (bringers.Entry n) = Entry n
origin_by (bringers.Own k) = Own k

abbrev pub step_view : WalkStep → said.WalkStep
step_view s = record { from = s.from; to = s.to; by = origin_view s.by }

abbrev pub end_view : Option End → Option said.End
end_view None = None
end_view (Some e) = Some (record { place = e.place; by = origin_view e.by })

abbrev pub steps_view : List WalkStep → List said.WalkStep
steps_view steps = map step_view steps

abbrev pub reason_view : Reason → said.Reason
reason_view (Blocks cell blocks) = BlocksOf cell blocks
reason_view (Walk place steps end) = WalkOf place (steps_view steps) (end_view end)

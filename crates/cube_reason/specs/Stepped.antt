-- Steps, as joints tell them.
use Rattle.std.specs.List.{list_any}
use Rattle.std.specs.Prelude.{◌≡◌, ℕ, Bool, false, ◌&&◌, ◌==◌, List, [], slice_index_or, Option, Some, None, if◌then◌else◌}
use Rattle.cube_model.specs.declared.link.Link.{Link}
use Rattle.cube_model.specs.Reasons as said
use Rattle.cube_model.specs.Reasons.{are_steps, led_to, joins, is_at, is_odd}
use Rattle.cube_reason.specs.declared.joints.Joint.{Joint}
use Rattle.cube_reason.specs.declared.reasons.End.{End}
use Rattle.cube_reason.specs.declared.reasons.Origin.{Origin}
use Rattle.cube_reason.specs.declared.reasons.Origin.TheVariants as origins
use Rattle.cube_reason.specs.declared.reasons.WalkStep.{WalkStep}
use Rattle.cube_reason.specs.declared.ties.Bringer.{Bringer}
use Rattle.cube_reason.specs.declared.ties.Bringer.TheVariants.{Entry, Own}
use Rattle.cube_reason.specs.declared.ties.Tie.{Tie}
use Rattle.cube_reason.specs.Views.{origin_view, steps_view}

-- the link comes from there
abbrev pub is_from : Bringer → Origin → Bool
is_from (Entry n) (origins.Entry k) = n == k
is_from (Entry n) (origins.Own k) = false
is_from (Own n) (origins.Entry k) = false
is_from (Own n) (origins.Own k) = n == k

-- a joint of the step's first place is the step
abbrev pub goes_by : List (List Joint) → WalkStep → Bool
goes_by joints s = list_any (λ j. j.to == s.to && is_from j.by s.by) (slice_index_or joints s.from [])

-- the joints tell which steps origins name
abbrev pub TellSteps : (said.Origin → List Link) → List (List Joint) → Type 0
TellSteps named joints = (s : WalkStep) → goes_by joints s ≡ list_any (joins s.from s.to) (named (origin_view s.by))

-- where the steps lead, if they are steps
abbrev pub led_if : (said.Origin → List Link) → ℕ → List WalkStep → Option ℕ
led_if named from steps = if are_steps named from (steps_view steps) then Some (led_to from (steps_view steps)) else None

-- a tie is the place alone, and comes from there
abbrev pub is_single : ℕ → Origin → Tie → Bool
is_single place by t = is_at place t.link && is_from t.by by

-- a walk that leads to a place ends there: back where it began and at odd length, or at a place alone
abbrev pub ends_at : List Tie → ℕ → List WalkStep → Option End → ℕ → Bool
ends_at ties start steps None at = is_odd (steps_view steps) && at == start
ends_at ties start steps (Some e) at = e.place == at && list_any (is_single e.place e.by) ties

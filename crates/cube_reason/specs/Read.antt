-- The lines of a walk, read from some step on.
use Rattle.std.specs.List.{list_any}
use Rattle.std.specs.Str.{bytes_eq}
use Rattle.std.specs.Prelude.{◌≡◌, ℕ, ◌<◌, ◌^◌, Bool, true, false, not, ◌&&◌, ◌==◌, List, ◌++◌, length, drop, flat_map, Option, Some, None}
use Rattle.cube_model.specs.declared.link.Link.{Link}
use Rattle.cube_model.specs.Cubes.{Public, IsIn}
use Rattle.cube_model.specs.Dims.{Dims}
use Rattle.cube_model.specs.Reasons as said
use Rattle.cube_model.specs.Reasons.{are_steps, led_to, is_at, is_odd}
use Rattle.cube_reason.specs.declared.joints.Joint.{Joint}
use Rattle.cube_reason.specs.declared.reasons.End.{End}
use Rattle.cube_reason.specs.declared.reasons.WalkStep.{WalkStep}
use Rattle.cube_reason.specs.declared.ties.Bringer.{Bringer}
use Rattle.cube_reason.specs.declared.ties.Bringer.TheVariants.{Entry, Own}
use Rattle.cube_reason.specs.declared.ties.Tie.{Tie}
use Rattle.cube_reason.specs.ReasonText.{step_line, end_line}
use Rattle.cube_reason.specs.Views.{origin_by, origin_view, steps_view}

-- a number of a machine word
abbrev pub IsFew : Bringer → Type 0
IsFew (Entry n) = n < 2 ^ 64
IsFew (Own k) = k < 2 ^ 64

abbrev pub AreFew : List Tie → Type 0
AreFew ties = (t : Tie) → IsIn t ties → IsFew t.by

-- the step from a place along a joint of it
abbrev pub step_by : ℕ → Joint → WalkStep
step_by from x = record { from = from; to = x.to; by = origin_by x.by }

abbrev pub end_by : ℕ → Bringer → End
end_by place b = record { place = place; by = origin_by b }

-- the tie is the place alone, and the lines are that of an end there by it
abbrev pub ends_by : Dims → Public → ℕ → List ℕ → Tie → Bool
ends_by s g at lines t = is_at at t.link && bytes_eq lines (end_line s g (Some (end_by at t.by)))

-- the lines begin with that of a step along one of the joints, which leads there and is so long
pub record BeginsWith (s : Dims) (g : Public) (joints : List Joint) (from : ℕ) (lines : List ℕ) (to long : ℕ) : Type 0 where
  pub joint : Joint
  pub among : IsIn joint joints
  pub leads : to ≡ joint.to
  pub size : long ≡ length (step_line s g (step_by from joint))
  pub front : lines ≡ step_line s g (step_by from joint) ++ drop long lines

-- the lines begin with that of no step along these joints
abbrev pub BeginsWithNone : Dims → Public → List Joint → ℕ → List ℕ → Type 0
BeginsWithNone s g joints from lines = (x : Joint) (rest : List ℕ) → IsIn x joints → lines ≡ step_line s g (step_by from x) ++ rest → ⊥

abbrev pub differ : Bool → Bool → Bool
differ true b = not b
differ false b = b

-- behind evenly or oddly many steps from the start, a walk that goes on so comes back at odd length, or leads to a single
abbrev pub ends_behind : (said.Origin → List Link) → ℕ → Bool → ℕ → List WalkStep → Option End → Bool
ends_behind named start odd at steps None = differ odd (is_odd (steps_view steps)) && led_to at (steps_view steps) == start
ends_behind named start odd at steps (Some e) = e.place == led_to at (steps_view steps) && list_any (is_at e.place) (named (origin_view e.by))

-- the lines of steps from a place on and of an end, by which a walk ends that began elsewhere
pub record GoesOn (s : Dims) (g : Public) (named : said.Origin → List Link) (start : ℕ) (odd : Bool) (at : ℕ) (lines : List ℕ) : Type 0 where
  pub steps : List WalkStep
  pub end : Option End
  pub are : are_steps named at (steps_view steps) ≡ true
  pub ends : ends_behind named start odd at steps end ≡ true
  pub lines_are : lines ≡ flat_map (step_line s g) steps ++ end_line s g end

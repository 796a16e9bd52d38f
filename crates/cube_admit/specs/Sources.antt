-- What one more grain does to the source of a lattice measure.
use Rattle.std.specs.Prelude.{◌≡◌, ℕ, List, length, Option, Some, None, ⊤, nat_le, if◌then◌else◌}
use Rattle.cube_model.specs.declared.verdict.Verdict.{Verdict}
use Rattle.cube_model.specs.declared.verdict.Verdict.TheVariants.{Full}
use Rattle.cube_model.specs.Cubes.{Public}
use Rattle.cube_model.specs.Protection.{uncut}
use Rattle.cube_model.specs.Verdicts.{narrowed, holds_grain, most_held, unless_uncut}
use Rattle.cube_admit.specs.declared.held.Held.{Held}
use Rattle.cube_admit.specs.declared.held.Held.TheVariants as held
use Rattle.cube_admit.specs.declared.source.Step.{Step}
use Rattle.cube_admit.specs.declared.source.Step.TheVariants.{Stays, Would}

-- where there is a source, it has so many levels
abbrev pub IsLong : ℕ → Option (List ℕ) → Type 0
IsLong n None = ⊤
IsLong n (Some s) = length s ≡ n

-- a source stays where it is as fine as the grain already, and else would be narrowed
abbrev pub stepped : Option (List ℕ) → List ℕ → Step
stepped s c = if holds_grain s c then Stays else Would (narrowed s c)

-- what is kept of another measure stays
abbrev pub step_by : Held → List ℕ → Step
step_by held.Open c = Stays
step_by (held.Source s) c = stepped s c
step_by (held.Links k) c = Stays

-- the verdict on a fresh request that would narrow the source to these levels, behind so many requests
abbrev pub judged_as : Public → ℕ → ℕ → List ℕ → Verdict
judged_as g many m c = if nat_le most_held many then Full many else unless_uncut c (uncut g c m)

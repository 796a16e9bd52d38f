-- What a state needs for the request that waits.
use Rattle.std.specs.Prelude.{ℕ, ◌<◌, ◌≤◌, List, length, slice_index_or, Option, Some, None, ⊤}
use Rattle.cube_admit.specs.declared.held.Held.{Held}
use Rattle.cube_admit.specs.declared.held.Held.TheVariants as held
use Rattle.cube_admit.specs.declared.held.Next.{Next}
use Rattle.cube_admit.specs.declared.held.Next.TheVariants as next
use Rattle.cube_admit.specs.declared.held.Pending.{Pending}

-- what becomes of a measure suits what is kept of it
abbrev pub CanEnd : Next → Held → Type 0
CanEnd (next.Source c) held.Open = ⊥
CanEnd (next.Source c) (held.Source s) = ⊤
CanEnd (next.Source c) (held.Links k) = ⊥
CanEnd (next.Mark n) held.Open = ⊥
CanEnd (next.Mark n) (held.Source s) = ⊥
CanEnd (next.Mark n) (held.Links k) = n ≤ length k.kept

-- where a request waits, the history has space for it, and it is on a measure that there is
abbrev pub CanEnter : ℕ → ℕ → ℕ → List Held → Option Pending → Type 0
CanEnter asked long capacity helds None = ⊤
CanEnter asked long capacity helds (Some p) = (asked < 16384) × (long < capacity) × (p.measure < length helds) × CanEnd p.next (slice_index_or helds p.measure held.Open)

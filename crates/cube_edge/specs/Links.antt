-- How far a connection is, and how long it may be still.
use Rattle.std.specs.Prelude.{ℕ, ◌-◌, ◌==◌, ◌&&◌, Bool, true, false, List, length, if◌then◌else◌, nat_lt, nat_le, Option, Some, None}
use Rattle.cube_edge.specs.declared.link.Stage.{Stage}
use Rattle.cube_edge.specs.declared.link.Stage.TheVariants as stage
use Rattle.cube_edge.specs.declared.link.TheConstants.{DROPPING}

-- there is a connection
abbrev pub is_there : Stage → Bool
is_there stage.Free = false
is_there stage.Open = true
is_there stage.Closing = true
is_there stage.Finished = true

-- it is open
abbrev pub is_open : Stage → Bool
is_open stage.Free = false
is_open stage.Open = true
is_open stage.Closing = false
is_open stage.Finished = false

-- the milliseconds that a connection may be still, and 0 where that is for ever
abbrev pub patience : Stage → ℕ → ℕ
patience stage.Free idle = 0
patience stage.Open idle = idle
patience stage.Closing idle = idle
patience stage.Finished idle = DROPPING

-- it was still for so long
abbrev pub is_late : Option ℕ → ℕ → ℕ → Bool
is_late None now limit = false
is_late (Some since) now limit = nat_lt 0 limit && nat_le limit (now - since)

-- a connection that is closed: at once where nothing waits
abbrev pub closed_behind : List ℕ → Stage
closed_behind waiting = if length waiting == 0 then stage.Finished else stage.Closing

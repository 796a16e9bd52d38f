-- What a watch of a wire tells, and what the wire tells through it.
use Rattle.std.specs.Prelude.{◌≡◌, ℕ, ◌+◌, ◌^◌, Bool, false, IsTrue, List, [], ◌∷◌, ◌++◌, Option, Some, None, Result, Ok, Err}
use Rattle.cube_io.specs.declared.faults.Failed.{Failed}
use Rattle.cube_io.specs.declared.wire.Event.{Event}
use Rattle.cube_io.specs.Seen.{WireState}
use Rattle.cube_io.specs.Wires.{LogEntry, arrival_of, no_plan}
use Rattle.cube_io.specs.Wires.LogEntry.{Heard}
use Rattle.cube_edge.specs.Sockets.{SocketsState}

-- Of a watch: how often it failed, whether it tells, its log, the addresses that it was told of, each with the seconds that
-- a connection may be still there, and its space: it takes one more event or
-- send that has fewer bytes than that.
pub record WatchState : Type 0 where
  pub faults : ℕ
  pub told : Bool
  pub log : List LogEntry
  pub heard : List (List ℕ × ℕ)
  pub capacity : ℕ

-- an address with the seconds more, where the call went well
abbrev pub HearsOf : Result (Unit {0}) Failed → List (List ℕ × ℕ) → List (List ℕ × ℕ) → List ℕ → ℕ → Type 0
HearsOf (Ok u) old new address idle = new ≡ old ++ (address, idle) ∷ []
HearsOf (Err e) old new address idle = new ≡ old

-- a watch that tells nothing, and takes everything
abbrev pub no_watch : WatchState
no_watch = record { faults = 0; told = false; log = []; heard = []; capacity = 2 ^ 64 }

-- an entry more
pub record Notes (entry : LogEntry) (old new : WatchState) : Type 0 where
  pub faults : new.faults ≡ old.faults
  pub told : new.told ≡ old.told
  pub heard : IsTrue old.told → new.heard ≡ old.heard
  pub log : IsTrue old.told → new.log ≡ old.log ++ entry ∷ []

-- a look for an event: the watch was told of it, and of nothing where there was none
abbrev pub NotesEvent : Option Event → List ℕ → WatchState → WatchState → Type 0
NotesEvent (Some event) buf old new = Notes (Heard (arrival_of event buf)) old new
NotesEvent None buf old new = new ≡ old

abbrev pub NotesNext : Result (Option Event) Failed → List ℕ → WatchState → WatchState → Type 0
NotesNext (Ok found) buf old new = NotesEvent found buf old new
NotesNext (Err failed) buf old new = new ≡ old

-- what a wire over sockets tells: how often these or its watch failed, how often a send failed, and what the watch tells
abbrev pub wire_over : SocketsState → WatchState → ℕ → WireState
wire_over sockets watch send_faults = record { faults = sockets.faults + watch.faults; send_faults = send_faults; told = watch.told; log = watch.log; heard = watch.heard; plan = no_plan }

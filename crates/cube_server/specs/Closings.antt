-- What a log says behind a send that failed.
use Rattle.std.specs.Prelude.{◌≡◌, ℕ, Bool, true, false, List, [], ◌∷◌, ◌++◌}
use Rattle.cube_model.specs.Rooms.{Room}
use Rattle.cube_io.specs.Desks.{Manner}
use Rattle.cube_io.specs.Wires.{Arrival, LogEntry}
use Rattle.cube_io.specs.Wires.LogEntry.{Heard, Sent, Torn, Shut}
use Rattle.cube_server.specs.Logs.{Luck, log_of}

-- nothing more, or an event comes next
abbrev pub awaits_event : List LogEntry → Bool
awaits_event [] = true
awaits_event (Heard e ∷ log) = true
awaits_event (Sent c bytes ∷ log) = false
awaits_event (Torn c bytes size ∷ log) = false
awaits_event (Shut c ∷ log) = false

-- Behind a send that failed its connection is closed, and nothing more goes out before an event comes.
abbrev pub FailsLast : Type 0
FailsLast = (m : Manner) (rooms : List Room) (events : List Arrival) (luck : Luck) (before behind : List LogEntry) (c : ℕ) (said : List ℕ) (size : ℕ)
    → log_of m rooms events luck ≡ before ++ Torn c said size ∷ behind → (more : List LogEntry) × (behind ≡ Shut c ∷ more) × (awaits_event more ≡ true)

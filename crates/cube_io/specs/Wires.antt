-- What a wire tells: events, sends and closes in order.
use Rattle.std.specs.Prelude.{◌≡◌, ◌≤◌, ◌<◌, ℕ, ◌==◌, Bool, true, false, IsTrue, List, [], ◌∷◌, ◌++◌, length, take, if◌then◌else◌, codes, Option, Some, None, Result, Ok, Err}
use Rattle.std.specs.List.{flat_map, filter_map}
use Rattle.std.specs.Fmt.{decimal}
use Rattle.cube_io.specs.declared.faults.Failed.{Failed}
use Rattle.cube_io.specs.declared.wire.Event.{Event}
use Rattle.cube_io.specs.declared.wire.Event.TheVariants as event

-- what came: a connection opened, bytes on it, or it closed; or nothing more comes
pub data Arrival : Type 0 where
  Opened : ℕ → Arrival
  Came : ℕ → List ℕ → Arrival
  Closed : ℕ → Arrival
  End : Arrival

-- an entry of a log: what came, what went out, what went out of a send that failed and how many bytes all of it had, a close
pub data LogEntry : Type 0 where
  Heard : Arrival → LogEntry
  Sent : ℕ → List ℕ → LogEntry
  Torn : ℕ → List ℕ → ℕ → LogEntry
  Shut : ℕ → LogEntry

-- What a wire is to play: events, and space for so many sends that go well and for so many bytes of them all; and whether it refused
-- to listen before.
pub record Plan : Type 0 where
  pub events : List Arrival
  pub sends : ℕ
  pub bytes : ℕ
  pub refused : Bool

-- nothing is known of what will come
abbrev pub no_plan : Plan
no_plan = record { events = []; sends = 0; bytes = 0; refused = false }

-- an event with the bytes at the front of the buffer
abbrev pub arrival_of : Event → List ℕ → Arrival
arrival_of (event.Opened c) buf = Opened c
arrival_of (event.Piece c n) buf = Came c (take n buf)
arrival_of (event.Closed c) buf = Closed c
arrival_of event.End buf = End

-- a piece has a byte, and stands in the buffer
abbrev pub FitsBuffer : Event → List ℕ → Type 0
FitsBuffer (event.Piece c n) buf = (0 < n) × (n ≤ length buf)
FitsBuffer (event.Opened c) buf = Unit {0}
FitsBuffer (event.Closed c) buf = Unit {0}
FitsBuffer event.End buf = Unit {0}

-- whether connection c is open behind an entry
abbrev pub open_by : ℕ → Bool → LogEntry → Bool
open_by c was (Heard (Opened d)) = if d == c then true else was
open_by c was (Heard (Came d bytes)) = was
open_by c was (Heard (Closed d)) = if d == c then false else was
open_by c was (Heard End) = was
open_by c was (Sent d bytes) = was
open_by c was (Torn d bytes size) = was
open_by c was (Shut d) = if d == c then false else was

-- whether it is open behind a log
abbrev pub open_after : ℕ → Bool → List LogEntry → Bool
open_after c was [] = was
open_after c was (e ∷ log) = open_after c (open_by c was e) log

-- it was opened, and closed neither by a close nor by the other side since then
abbrev pub IsOpen : ℕ → List LogEntry → Type 0
IsOpen c log = IsTrue (open_after c false log)

-- whether a send on connection c may go out behind an entry: it is open, and no send on it failed since it was opened
abbrev pub sound_by : ℕ → Bool → LogEntry → Bool
sound_by c was (Heard (Opened d)) = if d == c then true else was
sound_by c was (Heard (Came d bytes)) = was
sound_by c was (Heard (Closed d)) = if d == c then false else was
sound_by c was (Heard End) = was
sound_by c was (Sent d bytes) = was
sound_by c was (Torn d bytes size) = if d == c then false else was
sound_by c was (Shut d) = if d == c then false else was

abbrev pub sound_after : ℕ → Bool → List LogEntry → Bool
sound_after c was [] = was
sound_after c was (e ∷ log) = sound_after c (sound_by c was e) log

-- it was opened, and since then no send on it failed, and nobody closed it
abbrev pub IsSound : ℕ → List LogEntry → Type 0
IsSound c log = IsTrue (sound_after c false log)

-- a send: all of the piece, or after a failure a prefix of it, and how long the piece was
abbrev pub SendTells : ℕ → List ℕ → Result (Unit {0}) Failed → List LogEntry → List LogEntry → Type 0
SendTells c piece (Ok u) old new = new ≡ old ++ Sent c piece ∷ []
SendTells c piece (Err e) old new = (said : List ℕ) × (unsaid : List ℕ) × (piece ≡ said ++ unsaid) × (new ≡ old ++ Torn c said (length piece) ∷ [])

-- an event, or after a failure nothing
abbrev pub NextTells : Result Event Failed → List ℕ → List LogEntry → List LogEntry → Type 0
NextTells (Ok e) buf old new = new ≡ old ++ Heard (arrival_of e buf) ∷ []
NextTells (Err f) buf old new = new ≡ old

-- the event that an entry notes
abbrev pub event_in : LogEntry → Option Arrival
event_in (Heard e) = Some e
event_in (Sent c bytes) = None
event_in (Torn c bytes size) = None
event_in (Shut c) = None

-- the events that were taken
abbrev pub events_in : List LogEntry → List Arrival
events_in log = filter_map event_in log

-- the text of a log: a line and the bytes for each send that did not fail, a line for each close
abbrev pub rendered : LogEntry → List ℕ
rendered (Heard e) = []
rendered (Sent c bytes) = codes "sent " ++ decimal c ++ codes " " ++ decimal (length bytes) ++ 10 ∷ bytes ++ 10 ∷ []
rendered (Torn c bytes size) = []
rendered (Shut c) = codes "shut " ++ decimal c ++ 10 ∷ []

abbrev pub render : List LogEntry → List ℕ
render log = flat_map rendered log

-- What a part of a run does, in terms of the definition of the log: the definition's step, with the luck that the log and the
-- desk show used up in front of any luck that is left.
use Rattle.std.specs.Prelude.{◌≡◌, ◌⊎◌, ℕ, ◌<◌, ◌≤◌, ◌+◌, ◌==◌, Bool, true, false, IsTrue, List, [], ◌∷◌, ◌++◌, length, Option, Some, None, if◌then◌else◌, ◌||◌}
use Rattle.std.specs.List.{filter_map, list_any}
use Rattle.cube_model.specs.declared.ask.Ask.{Ask}
use Rattle.cube_model.specs.declared.outcome.Outcome.{Outcome}
use Rattle.cube_model.specs.Rooms.{Room}
use Rattle.cube_io.specs.Desks.{Manner}
use Rattle.cube_io.specs.Wires.{Arrival, LogEntry, sound_after, events_in}
use Rattle.cube_io.specs.Wires.Arrival.{Opened, Came, Closed, End}
use Rattle.cube_io.specs.Wires.LogEntry.{Heard, Sent, Torn, Shut}
use Rattle.cube_model.specs.declared.reply.Reply.{Reply}
use Rattle.cube_model.specs.declared.reply.Reply.TheVariants as reply
use Rattle.cube_http.specs.Responses.{has_phrase, status_of, continue_bytes}
use Rattle.cube_http.specs.Stream.{Request}
use Rattle.cube_http.specs.declared.connection.Heard.{Heard as Sound}
use Rattle.cube_http.specs.declared.connection.Heard.TheVariants as heard
use Rattle.cube_http.specs.declared.targets.Wanted.{Wanted}
use Rattle.cube_io.specs.Seen.{StoreState}
use Rattle.cube_server.specs.Crashes.{FailedFresh, Called, Endures}
use Rattle.cube_server.specs.Logs.{Luck, Call, Course, Turn, Run, spoken, replied, answered, wanted_by, dealt_all, behind, run_of, log_of, calls_of, end_of, met}
use Rattle.cube_server.specs.declared.serving.ServeFault.{ServeFault}
use Rattle.cube_server.specs.declared.serving.ServeFault.TheVariants as fault
use Rattle.cube_server.specs.Seen.{DeskState, Moment}
use Rattle.cube_server.specs.Ears.{AreKept, AreOpen, Keeps, OnGoes, is_on, kept_bytes}
use Rattle.cube_server.specs.declared.lines.Ear.{Ear}
use Rattle.cube_server.specs.declared.deal.Left.{Left}
use Rattle.cube_server.specs.declared.lines.Line.{Line}
use Rattle.cube_server.specs.declared.lines.Lines.{Lines}

-- each reply of the desk has a status with a phrase
abbrev pub IsPhrased : Manner → Type 0
IsPhrased m = (rooms : List Room) (ask : Ask) (o : Outcome) → IsTrue (has_phrase (status_of (m.reply rooms ask o)))

-- for each send of a log, whether it failed after so many bytes
abbrev pub send_of : LogEntry → Option (Option ℕ)
send_of (Heard e) = None
send_of (Sent c bytes) = Some None
send_of (Torn c bytes size) = Some (Some (length bytes))
send_of (Shut c) = None

abbrev pub sends_in : List LogEntry → List (Option ℕ)
sends_in log = filter_map send_of log

-- the sends of a body
abbrev pub body_sends : Bool → List ℕ → List (List ℕ)
body_sends head_only body = if head_only || length body == 0 then [] else body ∷ []

abbrev pub turn : Course → Bool → Turn
turn k live = record { course = k; live = live }

abbrev pub speaking : Course → List (Option ℕ) → List LogEntry → Course
speaking k sends log = record k { sends = sends; log = log }

abbrev pub course : List Room → ℕ → List Outcome → List (Option ℕ) → List Bool → List Call → List LogEntry → Course
course rooms asks outcomes sends starved calls log = record { rooms = rooms; asks = asks; outcomes = outcomes; sends = sends; starved = starved; calls = calls; log = log }

abbrev pub run : List (ℕ × List ℕ) → ℕ → Course → Run
run conns events k = record { conns = conns; events = events; course = k }

-- No other connection was opened or closed, no event came, and the connection is open where it was and is live.
pub record Talks (c : ℕ) (log log' : List LogEntry) (live : Bool) : Type 0 where
  pub quiet : events_in log' ≡ events_in log
  pub others : (d : ℕ) → (c == d) ≡ false → sound_after d false log' ≡ sound_after d false log
  pub stays : live ≡ true → sound_after c false log' ≡ sound_after c false log

-- a step of the definition that sends on a live connection: it took the log so far
pub record Speaks (c : ℕ) (op : Turn → Turn) (log log' : List LogEntry) (live : Bool) : Type 0 where
  pub talks : Talks c log log' live
  pub sends : List (Option ℕ)
  pub shown : sends_in log' ≡ sends_in log ++ sends
  pub runs : (k : Course) (left : List (Option ℕ)) → op (turn (speaking k (sends ++ left) log) true) ≡ turn (speaking k left log') live

-- a step of the definition that may ask the desk too, and asks it just this
pub record Deals (c : ℕ) (op : Turn → Turn) (live : Bool) (old new : DeskState) (log log' : List LogEntry) (calls : List Call) : Type 0 where
  pub talks : Talks c log log' live
  pub asked : Called old new calls
  pub sends : List (Option ℕ)
  pub starved : List Bool
  pub shown : sends_in log' ≡ sends_in log ++ sends
  pub runs : (os : List Outcome) (ss : List (Option ℕ)) (bs : List Bool) (cs : List Call)
      → op (turn (course old.rooms old.capacity (asked.added ++ os) (sends ++ ss) (starved ++ bs) cs log) true) ≡ turn (course new.rooms new.capacity os ss bs (cs ++ calls) log') live

-- the reply to what a request wants: where it goes out, the request was dealt with
abbrev pub MakesReply : Wanted → Reply → DeskState → DeskState → List Call → Type 0
MakesReply w r old new calls =
    (q : Request) (c : ℕ) (log log' : List LogEntry) (live : Bool) → Speaks c (answered c q r) log log' live → Deals c (wanted_by old.manner w c q) live old new log log' calls

-- A piece on a connection on which a stream came before: what the items whose last byte lies in it lead to, and, while asks may be made,
-- that an open connection keeps what goes on as the stream with the piece does.
pub record HearsPiece (c : ℕ) (stream piece : List ℕ) (left : Left) (old new : DeskState) (log log' : List LogEntry) (calls : List Call) : Type 0 where
  pub deals : Deals c (dealt_all old.manner c (behind (length stream) (stream ++ piece))) (is_on left) old new log log' calls
  pub goes : 0 < new.capacity → OnGoes left (stream ++ piece)

-- the same, whatever stream came that goes on as what is kept does
abbrev pub HearsAll : ℕ → Ear → List ℕ → Left → DeskState → DeskState → List LogEntry → List LogEntry → List Call → Type 0
HearsAll c ear piece left old new log log' calls = (stream : List ℕ) → Keeps stream (kept_bytes ear) → HearsPiece c stream piece left old new log log' calls

-- what is sent where the client may wait for leave
abbrev pub body_said : ℕ → Bool → Turn → Turn
body_said c waits t = if waits then spoken c continue_bytes t else t

-- what is sent where bytes were refused
abbrev pub dead_said : ℕ → Sound → Turn → Turn
dead_said c heard.More t = t
dead_said c heard.Continue t = t
dead_said c heard.Whole t = t
dead_said c (heard.Bad fixed) t = replied c (reply.Fixed fixed) true false t

-- a step of the definition at an event: which connections are open behind it is told too
pub record Meets (op : Run → Run) (lines' : List Line) (conns : List (ℕ × List ℕ)) (old new : DeskState) (log log' : List LogEntry) (calls : List Call) : Type 0 where
  pub conns' : List (ℕ × List ℕ)
  pub kept : 0 < new.capacity → AreKept lines' conns'
  pub live : AreOpen lines' log'
  pub quiet : events_in log' ≡ events_in log
  pub asked : Called old new calls
  pub sends : List (Option ℕ)
  pub starved : List Bool
  pub shown : sends_in log' ≡ sends_in log ++ sends
  pub runs : (n : ℕ) (os : List Outcome) (ss : List (Option ℕ)) (bs : List Bool) (cs : List Call)
      → op (run conns n (course old.rooms old.capacity (asked.added ++ os) (sends ++ ss) (starved ++ bs) cs log)) ≡ run conns' n (course new.rooms new.capacity os ss bs (cs ++ calls) log')

-- what an event leads to, whatever came on the connections that were open before
abbrev pub MeetsAll : Arrival → Lines → Lines → DeskState → DeskState → List LogEntry → List LogEntry → List Call → Type 0
MeetsAll event lines lines' old new log log' calls = (conns : List (ℕ × List ℕ)) → AreKept lines.lines.items conns → Meets (met old.manner event) lines'.lines.items conns old new log log' calls

-- the stated numbers of asks and of events
pub record Stated : Type 0 where
  pub asks : ℕ
  pub events : ℕ

-- a whole luck
abbrev pub luck_of : Stated → List Outcome → List (Option ℕ) → List Bool → Luck
luck_of stated outcomes sends starved = record { asks = stated.asks; events = stated.events; outcomes = outcomes; sends = sends; starved = starved }

-- as many asks as the desk has space for
abbrev pub stated_at : DeskState → ℕ → Stated
stated_at desk events = record { asks = desk.capacity; events = events }

-- The log of a whole call that takes so many events at most. It is the log of the definition for the rooms at entry, the events that it
-- shows, and the stated numbers, the outcomes that were gained, the sends as the log shows them, and what constant replies starved. No
-- outcome is left over, the rooms are those at the end of the definition's run, and as many asks are left as the desk has space for. What
-- the definition's run asks is just this. The journal failed only for asks that would have added to a history.
pub record Serves (old new : DeskState) (events : ℕ) (log : List LogEntry) (calls : List Call) : Type 0 where
  pub outcomes : List Outcome
  pub starved : List Bool
  pub gained : new.outcomes ≡ old.outcomes ++ outcomes
  pub told : log ≡ log_of old.manner old.rooms (events_in log) (luck_of (stated_at old events) outcomes (sends_in log) starved)
  pub ended : new.rooms ≡ end_of old.manner old.rooms (events_in log) (luck_of (stated_at old events) outcomes (sends_in log) starved)
  pub none_left : (run_of old.manner old.rooms (events_in log) (luck_of (stated_at old events) outcomes (sends_in log) starved)).course.outcomes ≡ []
  pub asks_left : (run_of old.manner old.rooms (events_in log) (luck_of (stated_at old events) outcomes (sends_in log) starved)).course.asks ≡ new.capacity
  pub called : calls_of old.manner old.rooms (events_in log) (luck_of (stated_at old events) outcomes (sends_in log) starved) ≡ calls
  pub fresh : FailedFresh old.manner old.rooms (calls_of old.manner old.rooms (events_in log) (luck_of (stated_at old events) outcomes (sends_in log) starved))

abbrev pub is_end : Arrival → Bool
is_end (Opened c) = false
is_end (Came c bytes) = false
is_end (Closed c) = false
is_end End = true

-- the end was heard
abbrev pub has_end : List LogEntry → Bool
has_end log = list_any is_end (events_in log)

-- an event that is not the end was taken, and what it leads to was done
pub record Takes (lines' : List Line) (conns : List (ℕ × List ℕ)) (old new : DeskState) (log log' : List LogEntry) (calls : List Call) : Type 0 where
  pub event : Arrival
  pub more : is_end event ≡ false
  pub meets : Meets (met old.manner event) lines' conns old new (log ++ Heard event ∷ []) log' calls

-- so it was where this holds, whatever came on the connections that were open before
abbrev pub TakesWhere : Type 0 → Lines → Lines → DeskState → DeskState → List LogEntry → List LogEntry → List Call → Type 0
TakesWhere more lines lines' old new log log' calls = more → (conns : List (ℕ × List ℕ)) → AreKept lines.lines.items conns → Takes lines'.lines.items conns old new log log' calls

-- What is said by the fault that ends a call of at most so many events: the wire failed before the stated asks and events were used up;
-- or one of these was, and both were counted.
abbrev pub IsCounted : ServeFault → Bool → DeskState → DeskState → ℕ → List LogEntry → Type 0
IsCounted fault.WireFailed told old new events log = (0 < new.capacity) × (IsTrue told → length (events_in log) < events)
IsCounted (fault.Spent requests taken) told old new events log =
    (length new.outcomes ≡ length old.outcomes + requests) × (IsTrue told → length (events_in log) ≡ taken) × (taken ≤ events) × ((new.capacity ≡ 0) ⊎ (taken ≡ events))

-- The wire allows that the next event is looked for at each moment of a call of which all is true that is promised of a call which ends
-- there since the wire fails: the log so far is that of the definition, and what its asks leave is on the store.
abbrev pub Permits : {D S : Type 0} → (D → StoreState → Moment) → (S → StoreState) → (StoreState → List LogEntry → Type 0) → ℕ → D → S → Type 0
Permits {D} {S} at tells allows events desk store = (d : D) (t : S) (log : List LogEntry) (calls : List Call)
    → Serves (at desk (tells store)).desk (at d (tells t)).desk events log calls → IsCounted fault.WireFailed true (at desk (tells store)).desk (at d (tells t)).desk events log → has_end log ≡ false
    → Endures (at desk (tells store)) (at d (tells t)) calls → allows (tells t) log

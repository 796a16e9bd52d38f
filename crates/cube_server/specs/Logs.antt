-- The log of a served wire: the events, sends and closes that must come.
use Rattle.std.specs.Prelude.{ℕ, ◌-◌, ◌&&◌, ◌||◌, ◌==◌, Bool, true, false, List, [], ◌∷◌, ◌++◌, length, take, map, filter, nat_lt, Option, Some, None, if◌then◌else◌}
use Rattle.std.specs.List.{list_any}
use Rattle.cube_model.specs.declared.ask.Ask.{Ask}
use Rattle.cube_model.specs.declared.outcome.Outcome.{Outcome}
use Rattle.cube_model.specs.declared.outcome.Outcome.TheVariants.{Given, JournalFault, NoMemory}
use Rattle.cube_model.specs.declared.reply.Fixed.{Fixed}
use Rattle.cube_model.specs.declared.reply.Fixed.TheVariants as constant
use Rattle.cube_model.specs.declared.reply.Reply.{Reply}
use Rattle.cube_model.specs.declared.reply.Reply.TheVariants as reply
use Rattle.cube_model.specs.Rooms.{Room}
use Rattle.cube_io.specs.Desks.{Manner}
use Rattle.cube_io.specs.Wires.{Arrival, LogEntry}
use Rattle.cube_io.specs.Wires.Arrival.{Opened, Came, Closed, End}
use Rattle.cube_io.specs.Wires.LogEntry.{Heard, Sent, Torn, Shut}
use Rattle.cube_http.specs.Checks.{closes}
use Rattle.cube_http.specs.Methods.{kind_of, is_head}
use Rattle.cube_http.specs.Stream.{Request, Item, items}
use Rattle.cube_http.specs.Stream.Item.{Continue, Whole, Bad}
use Rattle.cube_http.specs.Targets.{wanted}
use Rattle.cube_http.specs.declared.targets.Wanted.{Wanted}
use Rattle.cube_http.specs.declared.targets.Wanted.TheVariants.{Asked, Constant}
use Rattle.cube_http.specs.Responses.{sends_of, continue_bytes}

-- What a run was given and met: the stated numbers of asks and of events, the outcomes of its asks, for each send whether it
-- failed after so many bytes, and for each constant reply to a request whether it found no memory. What it tells nothing of met
-- no failure.
pub record Luck : Type 0 where
  pub asks : ℕ
  pub events : ℕ
  pub outcomes : List Outcome
  pub sends : List (Option ℕ)
  pub starved : List Bool

-- an ask that reached the desk, and what became of it
pub record Call : Type 0 where
  pub ask : Ask
  pub outcome : Outcome

-- What a run has come to: the rooms, how many more asks there may be, the luck that is left, the asks so far, and the log so far.
pub record Course : Type 0 where
  pub rooms : List Room
  pub asks : ℕ
  pub outcomes : List Outcome
  pub sends : List (Option ℕ)
  pub starved : List Bool
  pub calls : List Call
  pub log : List LogEntry

-- the same while one connection is served, and whether that one is open
pub record Turn : Type 0 where
  pub course : Course
  pub live : Bool

-- A run between two events: the open connections with all that came on each, how many more events there may be, and what it has
-- come to.
pub record Run : Type 0 where
  pub conns : List (ℕ × List ℕ)
  pub events : ℕ
  pub course : Course

abbrev pub noted : LogEntry → Course → Course
noted e k = record k { log = k.log ++ e ∷ [] }

-- ---- sends

-- one send: a failed one closes its connection, and says how long the piece was
abbrev pub spoken_by : List (Option ℕ) → ℕ → List ℕ → Course → Turn
spoken_by [] c bytes k = record { course = noted (Sent c bytes) k; live = true }
spoken_by (None ∷ sends) c bytes k = record { course = noted (Sent c bytes) (record k { sends = sends }); live = true }
spoken_by (Some n ∷ sends) c bytes k = record { course = noted (Shut c) (noted (Torn c (take n bytes) (length bytes)) (record k { sends = sends })); live = false }

abbrev pub spoken : ℕ → List ℕ → Turn → Turn
spoken c bytes t = if t.live then spoken_by t.course.sends c bytes t.course else t

-- sends in a row, while the connection is open
abbrev pub spoken_all : ℕ → List (List ℕ) → Turn → Turn
spoken_all c [] t = t
spoken_all c (bytes ∷ more) t = spoken_all c more (spoken c bytes t)

-- the connection is closed where it should be and is not yet
abbrev pub shut_if : Bool → ℕ → Turn → Turn
shut_if close c t = if close && t.live then record { course = noted (Shut c) t.course; live = false } else t

-- a reply, and its close
abbrev pub replied : ℕ → Reply → Bool → Bool → Turn → Turn
replied c r close head_only t = shut_if close c (spoken_all c (sends_of r close head_only) t)

-- ---- items

-- the items of a stream whose last byte lies behind its first n bytes
abbrev pub behind : ℕ → List ℕ → List Item
behind n text = map (λ p. p.item) (filter (λ p. nat_lt n p.ends) (items text))

-- the reply to a request
abbrev pub answered : ℕ → Request → Reply → Turn → Turn
answered c q r t = replied c r (closes q.head) (is_head (kind_of q.head.method)) t

-- the list ends here
abbrev pub cut_off : Turn → Turn
cut_off t = record { course = record t.course { asks = 0 }; live = t.live }

-- one ask is used up
abbrev pub counted : List Outcome → Course → Course
counted outcomes k = record k { asks = k.asks - 1; outcomes = outcomes }

-- an ask that reached the desk
abbrev pub called : Manner → Ask → Outcome → List Outcome → Course → Course
called m ask o outcomes k = record (counted outcomes k) { rooms = m.next k.rooms ask o; calls = k.calls ++ record { ask = ask; outcome = o } ∷ [] }

-- an ask takes the next outcome; where there is none the list ends
abbrev pub asked_by : Manner → List Outcome → ℕ → Request → Ask → Turn → Turn
asked_by m [] c q ask t = cut_off t
asked_by m (o ∷ outcomes) c q ask t = answered c q (m.reply t.course.rooms ask o) (record { course = called m ask o outcomes t.course; live = t.live })

-- A constant reply that finds no memory takes an outcome too, that of an ask that found none; where another comes next the list ends.
abbrev pub starved_by : List Outcome → ℕ → Request → Turn → Turn
starved_by [] c q t = cut_off t
starved_by (Given ∷ outcomes) c q t = cut_off t
starved_by (JournalFault ∷ outcomes) c q t = cut_off t
starved_by (NoMemory ∷ outcomes) c q t = answered c q (reply.Fixed constant.NoMemory) (record { course = counted outcomes t.course; live = t.live })

abbrev pub constant_by : List Bool → ℕ → Request → Fixed → Turn → Turn
constant_by [] c q f t = answered c q (reply.Fixed f) t
constant_by (false ∷ starved) c q f t = answered c q (reply.Fixed f) (record { course = record t.course { starved = starved }; live = t.live })
constant_by (true ∷ starved) c q f t = starved_by t.course.outcomes c q (record { course = record t.course { starved = starved }; live = t.live })

abbrev pub wanted_by : Manner → Wanted → ℕ → Request → Turn → Turn
wanted_by m (Asked ask) c q t = asked_by m t.course.outcomes c q ask t
wanted_by m (Constant f) c q t = constant_by t.course.starved c q f t

-- what an item leads to
abbrev pub dealt_with : Manner → ℕ → Item → Turn → Turn
dealt_with m c Continue t = spoken c continue_bytes t
dealt_with m c (Whole q) t = wanted_by m (wanted q) c q t
dealt_with m c (Bad f) t = replied c (reply.Fixed f) true false t

-- items in a row, while the connection is open and asks may be made
abbrev pub dealt_all : Manner → ℕ → List Item → Turn → Turn
dealt_all m c [] t = t
dealt_all m c (i ∷ more) t = if t.live && nat_lt 0 t.course.asks then dealt_all m c more (dealt_with m c i t) else t

-- ---- events

abbrev pub is_open : ℕ → List (ℕ × List ℕ) → Bool
is_open c conns = list_any (λ o. o.0 == c) conns

-- what came on a connection
abbrev pub came_on : ℕ → List (ℕ × List ℕ) → List ℕ
came_on c [] = []
came_on c (o ∷ conns) = if o.0 == c then o.1 else came_on c conns

-- the connections without this one
abbrev pub without : ℕ → List (ℕ × List ℕ) → List (ℕ × List ℕ)
without c [] = []
without c (o ∷ conns) = if o.0 == c then conns else o ∷ without c conns

-- the connection is served from here on
abbrev pub begun : Course → Turn
begun k = record { course = k; live = true }

-- the connection has been served: with these bytes it stays, where it is open
abbrev pub kept : ℕ → List ℕ → Run → Turn → Run
kept c text r t = record { conns = without c r.conns ++ (if t.live then (c, text) ∷ [] else []); events = r.events; course = t.course }

abbrev pub piece_came : Manner → ℕ → List ℕ → List ℕ → Run → Run
piece_came m c text piece r = kept c (text ++ piece) r (dealt_all m c (behind (length text) (text ++ piece)) (begun r.course))

-- as many connections as may be open at once
abbrev pub most_conns : ℕ
most_conns = 64

-- What an event leads to. A connection is new where it is opened; past so many open ones the other is told so, and closed. A piece
-- of a connection that is not open is dropped. At the end no more events are taken.
abbrev pub met : Manner → Arrival → Run → Run
met m (Opened c) r =
    if is_open c r.conns || nat_lt (length r.conns) most_conns then record r { conns = without c r.conns ++ (c, []) ∷ [] }
    else record r { course = (replied c (reply.Fixed constant.Busy) true false (begun r.course)).course }
met m (Came c piece) r = if is_open c r.conns then piece_came m c (came_on c r.conns) piece r else r
met m (Closed c) r = record r { conns = without c r.conns }
met m End r = record r { events = 0 }

-- an event is taken
abbrev pub taken : Arrival → Run → Run
taken e r = record { conns = r.conns; events = r.events - 1; course = noted (Heard e) r.course }

-- the stated asks or the stated events are used up, or the end has come
abbrev pub is_over : Run → Bool
is_over r = (r.events == 0) || (r.course.asks == 0)

abbrev pub run_on : Manner → List Arrival → Run → Run
run_on m [] r = r
run_on m (e ∷ es) r = if is_over r then r else run_on m es (met m e (taken e r))

-- a run begins over these rooms
abbrev pub begin : List Room → Luck → Run
begin rooms luck = record {
  conns = [];
  events = luck.events;
  course = record { rooms = rooms; asks = luck.asks; outcomes = luck.outcomes; sends = luck.sends; starved = luck.starved; calls = []; log = [] };
}

-- the run from these rooms on
unfoldable pub run_of : Manner → List Room → List Arrival → Luck → Run
run_of m rooms events luck = run_on m events (begin rooms luck)

-- its log, its asks, and the rooms at its end
abbrev pub log_of : Manner → List Room → List Arrival → Luck → List LogEntry
log_of m rooms events luck = (run_of m rooms events luck).course.log

abbrev pub calls_of : Manner → List Room → List Arrival → Luck → List Call
calls_of m rooms events luck = (run_of m rooms events luck).course.calls

abbrev pub end_of : Manner → List Room → List Arrival → Luck → List Room
end_of m rooms events luck = (run_of m rooms events luck).course.rooms

-- A send that failed is the last but for a close, until an event comes.
use Rattle.std.proofs.Common.{◌≡◌, ◌⊎◌, inl, inr, ℕ, ◌==◌, ◌&&◌, ◌||◌, Bool, true, false, List, [], ◌∷◌, ◌++◌, length, nat_lt, take, refl, sym, ◌∙◌, ap, subst, arith, eq-eqb, Option, Some, None, if◌then◌else◌}
use Rattle.std.proofs.lemmas.Bool.Decides.{nat_tests}
use Rattle.cube_model.specs.declared.ask.Ask.{Ask}
use Rattle.cube_model.specs.declared.outcome.Outcome.{Outcome}
use Rattle.cube_model.specs.declared.outcome.Outcome.TheVariants.{Given, JournalFault, NoMemory}
use Rattle.cube_model.specs.declared.reply.Fixed.{Fixed}
use Rattle.cube_model.specs.declared.reply.Fixed.TheVariants as constant
use Rattle.cube_model.specs.declared.reply.Reply.{Reply}
use Rattle.cube_model.specs.declared.reply.Reply.TheVariants as reply
use Rattle.cube_io.specs.Desks.{Manner}
use Rattle.cube_io.specs.Wires.{Arrival, LogEntry, events_in}
use Rattle.cube_io.specs.Wires.Arrival.{Opened, Came, Closed, End}
use Rattle.cube_io.specs.Wires.LogEntry.{Heard, Sent, Torn, Shut}
use Rattle.cube_http.specs.Checks.{closes}
use Rattle.cube_http.specs.Methods.{kind_of, is_head}
use Rattle.cube_http.specs.Responses.{sends_of, continue_bytes}
use Rattle.cube_http.specs.Stream.{Request, Item}
use Rattle.cube_http.specs.Stream.Item.{Continue, Whole, Bad}
use Rattle.cube_http.specs.Targets.{wanted}
use Rattle.cube_http.specs.declared.targets.Wanted.{Wanted}
use Rattle.cube_http.specs.declared.targets.Wanted.TheVariants.{Asked, Constant}
use Rattle.cube_server.specs.Closings.{FailsLast, awaits_event}
use Rattle.cube_server.specs.Logs as Logs
use Rattle.cube_server.specs.Logs.{Course, Turn, Run, noted, spoken_by, spoken, spoken_all, shut_if, replied, answered, counted, called, asked_by, starved_by, constant_by, wanted_by, dealt_with, dealt_all, behind, met, taken, is_over, is_open, came_on, without, most_conns, begun, run_on, run_of, begin}

-- ---- what may come behind a log

-- anything; the close of a connection on which a send failed; an event; or what came was something else
data Next : Type 0 where
  Any : Next
  Close : ℕ → Next
  Event : Next
  Wrong : Next

abbrev next_by : Next → LogEntry → Next
next_by Any (Heard e) = Any
next_by Any (Sent c bytes) = Any
next_by Any (Torn c bytes size) = Close c
next_by Any (Shut c) = Any
next_by (Close c) (Heard e) = Wrong
next_by (Close c) (Sent d bytes) = Wrong
next_by (Close c) (Torn d bytes size) = Wrong
next_by (Close c) (Shut d) = if c == d then Event else Wrong
next_by Event (Heard e) = Any
next_by Event (Sent c bytes) = Wrong
next_by Event (Torn c bytes size) = Wrong
next_by Event (Shut c) = Wrong
next_by Wrong e = Wrong

abbrev next_after : Next → List LogEntry → Next
next_after s [] = s
next_after s (e ∷ log) = next_after (next_by s e) log

abbrev next : List LogEntry → Next
next log = next_after Any log

next_append : (s : Next) (log more : List LogEntry) → next_after s (log ++ more) ≡ next_after (next_after s log) more
next_append s [] more = refl
next_append s (e ∷ log) more = next_append (next_by s e) log more

-- one entry more where anything may come
next_one : (log : List LogEntry) (e : LogEntry) (s : Next) → next log ≡ s → next (log ++ e ∷ []) ≡ next_by s e
next_one log e s is = next_append Any log (e ∷ []) ∙ ap (λ (x : Next). next_by x e) is

-- between two events
abbrev Rests : Next → Type 0
Rests s = (s ≡ Any) ⊎ (s ≡ Event)

-- while a connection is served: where it is open anything may come
record Fine (live : Bool) (log : List LogEntry) : Type 0 where
  opens : live ≡ true → next log ≡ Any
  rests : Rests (next log)

abbrev IsFine : Turn → Type 0
IsFine t = Fine t.live t.course.log

-- ---- sends

is_live : (log : List LogEntry) → next log ≡ Any → Fine true log
is_live log is = record { opens = λ l. is; rests = inl is }

is_shut : (log : List LogEntry) → Rests (next log) → Fine false log
is_shut log rests = record { opens = λ l. absurd (cc); rests = rests }

closed : (c : ℕ) → next_by (Close c) (Shut c) ≡ Event
closed c = ap (λ (b : Bool). if b then Event else Wrong) (eq-eqb c c refl)

by_fine : (sends : List (Option ℕ)) (c : ℕ) (bytes : List ℕ) (k : Course) → next k.log ≡ Any → IsFine (spoken_by sends c bytes k)
by_fine [] c bytes k is = is_live (k.log ++ Sent c bytes ∷ []) (next_one k.log (Sent c bytes) Any is)
by_fine (None ∷ sends) c bytes k is = is_live (k.log ++ Sent c bytes ∷ []) (next_one k.log (Sent c bytes) Any is)
by_fine (Some n ∷ sends) c bytes k is =
    let torn = Torn c (take n bytes) (length bytes) in
    is_shut ((k.log ++ torn ∷ []) ++ Shut c ∷ []) (inr (next_one (k.log ++ torn ∷ []) (Shut c) (Close c) (next_one k.log torn Any is) ∙ closed c))

either : (b : Bool) (x t : Turn) → (b ≡ true → IsFine x) → IsFine t → IsFine (if b then x else t)
either true x t f g = f refl
either false x t f g = g

spoken_fine : (c : ℕ) (bytes : List ℕ) (t : Turn) → IsFine t → IsFine (spoken c bytes t)
spoken_fine c bytes t f = either t.live (spoken_by t.course.sends c bytes t.course) t (λ l. by_fine t.course.sends c bytes t.course (f.opens l)) f

all_fine : (c : ℕ) (pieces : List (List ℕ)) (t : Turn) → IsFine t → IsFine (spoken_all c pieces t)
all_fine c [] t f = f
all_fine c (p ∷ ps) t f = all_fine c ps (spoken c p t) (spoken_fine c p t f)

second : (a b : Bool) → (a && b) ≡ true → b ≡ true
second true b e = e
second false b e = absurd (cc)

shut_fine : (close : Bool) (c : ℕ) (t : Turn) → IsFine t → IsFine (shut_if close c t)
shut_fine close c t f = either (close && t.live) (record { course = noted (Shut c) t.course; live = false }) t
    (λ e. is_shut (t.course.log ++ Shut c ∷ []) (inl (next_one t.course.log (Shut c) Any (f.opens (second close t.live e))))) f

replied_fine : (c : ℕ) (r : Reply) (close head_only : Bool) (t : Turn) → IsFine t → IsFine (replied c r close head_only t)
replied_fine c r close head_only t f = shut_fine close c (spoken_all c (sends_of r close head_only) t) (all_fine c (sends_of r close head_only) t f)

answered_fine : (c : ℕ) (q : Request) (r : Reply) (t : Turn) → IsFine t → IsFine (answered c q r t)
answered_fine c q r t f = replied_fine c r (closes q.head) (is_head (kind_of q.head.method)) t f

-- ---- items

asked_fine : (m : Manner) (outcomes : List Outcome) (c : ℕ) (q : Request) (ask : Ask) (t : Turn) → IsFine t → IsFine (asked_by m outcomes c q ask t)
asked_fine m [] c q ask t f = f
asked_fine m (o ∷ outcomes) c q ask t f = answered_fine c q (m.reply t.course.rooms ask o) (record { course = called m ask o outcomes t.course; live = t.live }) f

starved_fine : (outcomes : List Outcome) (c : ℕ) (q : Request) (t : Turn) → IsFine t → IsFine (starved_by outcomes c q t)
starved_fine [] c q t f = f
starved_fine (Given ∷ outcomes) c q t f = f
starved_fine (JournalFault ∷ outcomes) c q t f = f
starved_fine (NoMemory ∷ outcomes) c q t f = answered_fine c q (reply.Fixed constant.NoMemory) (record { course = counted outcomes t.course; live = t.live }) f

abbrev with_starved : List Bool → Turn → Turn
with_starved starved t = record { course = record t.course { starved = starved }; live = t.live }

constant_fine : (starved : List Bool) (c : ℕ) (q : Request) (x : Fixed) (t : Turn) → IsFine t → IsFine (constant_by starved c q x t)
constant_fine [] c q x t f = answered_fine c q (reply.Fixed x) t f
constant_fine (false ∷ starved) c q x t f = answered_fine c q (reply.Fixed x) (with_starved starved t) f
constant_fine (true ∷ starved) c q x t f = starved_fine t.course.outcomes c q (with_starved starved t) f

wanted_fine : (m : Manner) (w : Wanted) (c : ℕ) (q : Request) (t : Turn) → IsFine t → IsFine (wanted_by m w c q t)
wanted_fine m (Asked ask) c q t f = asked_fine m t.course.outcomes c q ask t f
wanted_fine m (Constant x) c q t f = constant_fine t.course.starved c q x t f

dealt_fine : (m : Manner) (c : ℕ) (i : Item) (t : Turn) → IsFine t → IsFine (dealt_with m c i t)
dealt_fine m c Continue t f = spoken_fine c continue_bytes t f
dealt_fine m c (Whole q) t f = wanted_fine m (wanted q) c q t f
dealt_fine m c (Bad x) t f = replied_fine c (reply.Fixed x) true false t f

items_fine : (m : Manner) (c : ℕ) (is : List Item) (t : Turn) → IsFine t → IsFine (dealt_all m c is t)
items_fine m c [] t f = f
items_fine m c (i ∷ is) t f = either (t.live && nat_lt 0 t.course.asks) (dealt_all m c is (dealt_with m c i t)) t (λ e. items_fine m c is (dealt_with m c i t) (dealt_fine m c i t f)) f

-- ---- events

abbrev Resting : Run → Type 0
Resting r = Rests (next r.course.log)

either_run : (b : Bool) (x y : Run) → Resting x → Resting y → Resting (if b then x else y)
either_run true x y f g = f
either_run false x y f g = g

met_rests : (m : Manner) (e : Arrival) (r : Run) → next r.course.log ≡ Any → Resting (met m e r)
met_rests m (Opened c) r is =
    either_run (is_open c r.conns || nat_lt (length r.conns) most_conns) (record r { conns = without c r.conns ++ (c, []) ∷ [] }) (record r { course = (replied c (reply.Fixed constant.Busy) true false (begun r.course)).course })
    (inl is) (replied_fine c (reply.Fixed constant.Busy) true false (begun r.course) (is_live r.course.log is)).rests
met_rests m (Came c piece) r is =
    let text = came_on c r.conns in
    either_run (is_open c r.conns) (Logs.piece_came m c text piece r) r
    (items_fine m c (behind (length text) (text ++ piece)) (begun r.course) (is_live r.course.log is)).rests (inl is)
met_rests m (Closed c) r is = inl is
met_rests m End r is = inl is

event_comes : (s : Next) (e : Arrival) → Rests s → next_by s (Heard e) ≡ Any
event_comes s e (inl is) = ap (λ (x : Next). next_by x (Heard e)) is
event_comes s e (inr is) = ap (λ (x : Next). next_by x (Heard e)) is

taken_any : (e : Arrival) (r : Run) → Resting r → next (taken e r).course.log ≡ Any
taken_any e r rests = next_one r.course.log (Heard e) (next r.course.log) refl ∙ event_comes (next r.course.log) e rests

run_rests : (m : Manner) (es : List Arrival) (r : Run) → Resting r → Resting (run_on m es r)
run_rests m [] r f = f
run_rests m (e ∷ es) r f = either_run (is_over r) r (run_on m es (met m e (taken e r))) f (run_rests m es (met m e (taken e r)) (met_rests m e (taken e r) (taken_any e r f)))

-- ---- behind a send that failed

wrong_stays : (log : List LogEntry) → next_after Wrong log ≡ Wrong
wrong_stays [] = refl
wrong_stays (e ∷ log) = wrong_stays log

any_is_not_wrong : Any ≡ Wrong → ⊥
any_is_not_wrong e = cc

event_is_not_wrong : Event ≡ Wrong → ⊥
event_is_not_wrong e = cc

never_wrong : (log : List LogEntry) → Rests (next_after Wrong log) → ⊥
never_wrong log (inl is) = any_is_not_wrong (sym is ∙ wrong_stays log)
never_wrong log (inr is) = event_is_not_wrong (sym is ∙ wrong_stays log)

never_closing : (c : ℕ) → Rests (Close c) → ⊥
never_closing c (inl is) = cc
never_closing c (inr is) = cc

-- behind the close
event_then : (log : List LogEntry) → Rests (next_after Event log) → awaits_event log ≡ true
event_then [] rests = refl
event_then (Heard e ∷ log) rests = refl
event_then (Sent c bytes ∷ log) rests = absurd (never_wrong log rests)
event_then (Torn c bytes size ∷ log) rests = absurd (never_wrong log rests)
event_then (Shut c ∷ log) rests = absurd (never_wrong log rests)

abbrev IsShutBehind : ℕ → List LogEntry → Type 0
IsShutBehind c log = (more : List LogEntry) × (log ≡ Shut c ∷ more) × (awaits_event more ≡ true)

shut_then : (c d : ℕ) (b : Bool) (log : List LogEntry) → (c == d) ≡ b → Rests (next_after (if b then Event else Wrong) log) → IsShutBehind c (Shut d ∷ log)
shut_then c d true log is rests =
    let same : d ≡ c = grind (arith, nat_tests, is) in
    (log, ap (λ (n : ℕ). Shut n ∷ log) same, event_then log rests)
shut_then c d false log is rests = absurd (never_wrong log rests)

close_then : (c : ℕ) (log : List LogEntry) → Rests (next_after (Close c) log) → IsShutBehind c log
close_then c [] rests = absurd (never_closing c rests)
close_then c (Heard e ∷ log) rests = absurd (never_wrong log rests)
close_then c (Sent d bytes ∷ log) rests = absurd (never_wrong log rests)
close_then c (Torn d bytes size ∷ log) rests = absurd (never_wrong log rests)
close_then c (Shut d ∷ log) rests = shut_then c d (c == d) log refl rests

torn_then : (s : Next) (c : ℕ) (said : List ℕ) (size : ℕ) (log : List LogEntry) → Rests (next_after (next_by s (Torn c said size)) log) → IsShutBehind c log
torn_then Any c said size log rests = close_then c log rests
torn_then (Close d) c said size log rests = absurd (never_wrong log rests)
torn_then Event c said size log rests = absurd (never_wrong log rests)
torn_then Wrong c said size log rests = absurd (never_wrong log rests)

pub fails_last : FailsLast
unfolding run_of
fails_last m rooms events luck before after c said size is =
    let rests : Rests (next (run_on m events (begin rooms luck)).course.log) = run_rests m events (begin rooms luck) (inl refl) in
    torn_then (next before) c said size after (subst Rests (ap next is ∙ next_append Any before (Torn c said size ∷ after)) rests)

-- where no event comes the close is the last
no_more : (log : List LogEntry) → awaits_event log ≡ true → events_in log ≡ [] → log ≡ []
no_more [] waits none = refl
no_more (Heard e ∷ log) waits none = absurd (cc)
no_more (Sent c bytes ∷ log) waits none = absurd (cc)
no_more (Torn c bytes size ∷ log) waits none = absurd (cc)
no_more (Shut c ∷ log) waits none = absurd (cc)

pub closed_last : (c : ℕ) (behind more : List LogEntry) → behind ≡ Shut c ∷ more → awaits_event more ≡ true → events_in behind ≡ [] → behind ≡ Shut c ∷ []
closed_last c behind more is waits none = is ∙ ap (λ (l : List LogEntry). Shut c ∷ l) (no_more more waits (sym (ap events_in is) ∙ none))

-- The same log over other rooms, where each reply is the same.
use Rattle.std.proofs.Common.{◌≡◌, ℕ, ◌&&◌, ◌||◌, Bool, true, false, List, [], ◌∷◌, ◌++◌, length, nat_lt, refl, sym, ◌∙◌, ap, subst, append_assoc, Option, Some, None, if◌then◌else◌}
use Rattle.std.proofs.lemmas.List.{append-nil}
use Rattle.cube_model.specs.declared.ask.Ask.{Ask}
use Rattle.cube_model.specs.declared.outcome.Outcome.{Outcome}
use Rattle.cube_model.specs.declared.outcome.Outcome.TheVariants.{Given, JournalFault, NoMemory}
use Rattle.cube_model.specs.declared.reply.Fixed.{Fixed}
use Rattle.cube_model.specs.declared.reply.Fixed.TheVariants as constant
use Rattle.cube_model.specs.declared.reply.Reply.{Reply}
use Rattle.cube_model.specs.declared.reply.Reply.TheVariants as reply
use Rattle.cube_model.specs.Rooms.{Room}
use Rattle.cube_io.specs.Desks.{Manner}
use Rattle.cube_io.specs.Wires.{Arrival, LogEntry}
use Rattle.cube_io.specs.Wires.Arrival.{Opened, Came, Closed, End}
use Rattle.cube_http.specs.Checks.{closes}
use Rattle.cube_http.specs.Methods.{kind_of, is_head}
use Rattle.cube_http.specs.Responses.{sends_of, continue_bytes}
use Rattle.cube_http.specs.Stream.{Request, Item}
use Rattle.cube_http.specs.Stream.Item.{Continue, Whole, Bad}
use Rattle.cube_http.specs.Targets.{wanted}
use Rattle.cube_http.specs.declared.targets.Wanted.{Wanted}
use Rattle.cube_http.specs.declared.targets.Wanted.TheVariants.{Asked, Constant}
use Rattle.cube_server.specs.Logs as Logs
use Rattle.cube_server.specs.Logs.{Call, Course, Turn, Run, Luck, spoken_by, spoken, spoken_all, shut_if, replied, answered, cut_off, counted, called, asked_by, starved_by, constant_by, wanted_by, dealt_with, dealt_all, behind, met, taken, is_over, is_open, came_on, without, most_conns, begun, run_on, run_of, begin, calls_of}
use Rattle.cube_server.specs.Crashes.{after}
use Rattle.cube_server.specs.Alike.{SameReplies, LogsAreAlike}
use Rattle.cube_server.proofs.Enduring.{after_more}

-- ---- replies

same_front : (m : Manner) (a b : List Room) (xs ys : List Call) → SameReplies m a b (xs ++ ys) → SameReplies m a b xs
same_front m a b [] ys s = tt
same_front m a b (x ∷ xs) ys s = (s.0, same_front m (m.next a x.ask x.outcome) (m.next b x.ask x.outcome) xs ys s.1)

same_last : (m : Manner) (a b : List Room) (xs : List Call) (c : Call) → SameReplies m a b (xs ++ c ∷ []) → m.reply (after m b xs) c.ask c.outcome ≡ m.reply (after m a xs) c.ask c.outcome
same_last m a b [] c s = s.0
same_last m a b (x ∷ xs) c s = same_last m (m.next a x.ask x.outcome) (m.next b x.ask x.outcome) xs c s.1

-- ---- what looks at no room

abbrev over_rooms : List Room → Course → Course
over_rooms r k = record k { rooms = r }

abbrev turned : List Room → Turn → Turn
turned r t = record { course = over_rooms r t.course; live = t.live }

-- a step looks at no room, and asks nothing
record Blind (op : Turn → Turn) : Type 0 where
  same : (r : List Room) (t : Turn) → op (turned r t) ≡ turned r (op t)
  rooms : (t : Turn) → (op t).course.rooms ≡ t.course.rooms
  calls : (t : Turn) → (op t).course.calls ≡ t.course.calls

by_same : (r : List Room) (sends : List (Option ℕ)) (c : ℕ) (bytes : List ℕ) (k : Course) → spoken_by sends c bytes (over_rooms r k) ≡ turned r (spoken_by sends c bytes k)
by_same r [] c bytes k = refl
by_same r (None ∷ s) c bytes k = refl
by_same r (Some n ∷ s) c bytes k = refl

by_rooms : (sends : List (Option ℕ)) (c : ℕ) (bytes : List ℕ) (k : Course) → (spoken_by sends c bytes k).course.rooms ≡ k.rooms
by_rooms [] c bytes k = refl
by_rooms (None ∷ s) c bytes k = refl
by_rooms (Some n ∷ s) c bytes k = refl

by_calls : (sends : List (Option ℕ)) (c : ℕ) (bytes : List ℕ) (k : Course) → (spoken_by sends c bytes k).course.calls ≡ k.calls
by_calls [] c bytes k = refl
by_calls (None ∷ s) c bytes k = refl
by_calls (Some n ∷ s) c bytes k = refl

-- a step on a live connection alone
if_same : (r : List Room) (b : Bool) (x t : Turn) → (if b then turned r x else turned r t) ≡ turned r (if b then x else t)
if_same r true x t = refl
if_same r false x t = refl

if_rooms : (b : Bool) (x t : Turn) → x.course.rooms ≡ t.course.rooms → (if b then x else t).course.rooms ≡ t.course.rooms
if_rooms true x t e = e
if_rooms false x t e = refl

if_calls : (b : Bool) (x t : Turn) → x.course.calls ≡ t.course.calls → (if b then x else t).course.calls ≡ t.course.calls
if_calls true x t e = e
if_calls false x t e = refl

blind_spoken : (c : ℕ) (bytes : List ℕ) → Blind (spoken c bytes)
blind_spoken c bytes = record {
  same = λ r t. ap (λ (x : Turn). if t.live then x else turned r t) (by_same r t.course.sends c bytes t.course) ∙ if_same r t.live (spoken_by t.course.sends c bytes t.course) t;
  rooms = λ t. if_rooms t.live (spoken_by t.course.sends c bytes t.course) t (by_rooms t.course.sends c bytes t.course);
  calls = λ t. if_calls t.live (spoken_by t.course.sends c bytes t.course) t (by_calls t.course.sends c bytes t.course);
}

blind_then : (f g : Turn → Turn) → Blind f → Blind g → Blind (λ t. g (f t))
blind_then f g x y = record {
  same = λ r t. ap g (x.same r t) ∙ y.same r (f t);
  rooms = λ t. y.rooms (f t) ∙ x.rooms t;
  calls = λ t. y.calls (f t) ∙ x.calls t;
}

blind_none : Blind (λ t. t)
blind_none = record { same = λ r t. refl; rooms = λ t. refl; calls = λ t. refl }

blind_all : (c : ℕ) (pieces : List (List ℕ)) → Blind (spoken_all c pieces)
blind_all c [] = blind_none
blind_all c (p ∷ ps) = blind_then (spoken c p) (spoken_all c ps) (blind_spoken c p) (blind_all c ps)

blind_shut : (close : Bool) (c : ℕ) → Blind (shut_if close c)
blind_shut close c = record {
  same = λ r t. if_same r (close && t.live) (record { course = Logs.noted (LogEntry.Shut c) t.course; live = false }) t;
  rooms = λ t. if_rooms (close && t.live) (record { course = Logs.noted (LogEntry.Shut c) t.course; live = false }) t refl;
  calls = λ t. if_calls (close && t.live) (record { course = Logs.noted (LogEntry.Shut c) t.course; live = false }) t refl;
}

blind_replied : (c : ℕ) (r : Reply) (close head_only : Bool) → Blind (replied c r close head_only)
blind_replied c r close head_only = blind_then (spoken_all c (sends_of r close head_only)) (shut_if close c) (blind_all c (sends_of r close head_only)) (blind_shut close c)

-- ---- steps that may ask

-- the rooms are those that the asks leave
abbrev Own : Manner → List Room → Course → Type 0
Own m a k = k.rooms ≡ after m a k.calls

-- the same over the other rooms
abbrev moved : Manner → List Room → Course → Course
moved m b k = over_rooms (after m b k.calls) k

abbrev shifted : Manner → List Room → Turn → Turn
shifted m b t = record { course = moved m b t.course; live = t.live }

-- A step from a turn to another: where the replies to its asks are the same it is the same over the other rooms.
record Like (m : Manner) (a b : List Room) (op : Turn → Turn) (t : Turn) : Type 0 where
  own : Own m a (op t).course
  more : List Call
  grown : (op t).course.calls ≡ t.course.calls ++ more
  same : SameReplies m a b (op t).course.calls → op (shifted m b t) ≡ shifted m b (op t)

blind_like : (m : Manner) (a b : List Room) (op : Turn → Turn) (t : Turn) → Blind op → Own m a t.course → Like m a b op t
blind_like m a b op t x o = record {
  own = x.rooms t ∙ o ∙ ap (after m a) (sym (x.calls t));
  more = [];
  grown = x.calls t ∙ sym (append-nil t.course.calls);
  same = λ s. x.same (after m b t.course.calls) t ∙ ap (λ (cs : List Call). turned (after m b cs) (op t)) (sym (x.calls t));
}

like_then : (m : Manner) (a b : List Room) (f g : Turn → Turn) (t : Turn) → Like m a b f t → Like m a b g (f t) → Like m a b (λ t. g (f t)) t
like_then m a b f g t x y = record {
  own = y.own;
  more = x.more ++ y.more;
  grown = y.grown ∙ ap (λ (l : List Call). l ++ y.more) x.grown ∙ append_assoc t.course.calls x.more y.more;
  same = λ s. ap g (x.same (same_front m a b (f t).course.calls y.more (subst (SameReplies m a b) y.grown s))) ∙ y.same s;
}

blind_cut : Blind cut_off
blind_cut = record { same = λ r t. refl; rooms = λ t. refl; calls = λ t. refl }

blind_answered : (c : ℕ) (q : Request) (r : Reply) → Blind (answered c q r)
blind_answered c q r = blind_replied c r (closes q.head) (is_head (kind_of q.head.method))

-- one more ask is the last of them
one_after : (m : Manner) (a : List Room) (cs : List Call) (c : Call) → after m a (cs ++ c ∷ []) ≡ m.next (after m a cs) c.ask c.outcome
one_after m a cs c = after_more m a cs (c ∷ [])

asked_like : (m : Manner) (a b : List Room) (outcomes : List Outcome) (c : ℕ) (q : Request) (ask : Ask) (t : Turn) → Own m a t.course → Like m a b (asked_by m outcomes c q ask) t
asked_like m a b [] c q ask t o = blind_like m a b cut_off t blind_cut o
asked_like m a b (out ∷ outcomes) c q ask t o =
    let call : Call = record { ask = ask; outcome = out } in
    let cs = t.course.calls in
    let t1 : Turn = record { course = called m ask out outcomes t.course; live = t.live } in
    let said = m.reply t.course.rooms ask out in
    let blind = blind_answered c q said in
    let done = answered c q said t1 in
    let calls : done.course.calls ≡ cs ++ call ∷ [] = blind.calls t1 in
    record {
      own = blind.rooms t1 ∙ ap (λ (r : List Room). m.next r ask out) o ∙ sym (one_after m a cs call) ∙ ap (after m a) (sym calls);
      more = call ∷ [];
      grown = calls;
      same = λ s.
          let reply : m.reply (after m b cs) ask out ≡ said = same_last m a b cs call (subst (SameReplies m a b) calls s) ∙ ap (λ (r : List Room). m.reply r ask out) (sym o) in
          ap (λ (z : Reply). answered c q z (record { course = called m ask out outcomes (moved m b t.course); live = t.live })) reply
          ∙ ap (λ (r : List Room). answered c q said (turned r t1)) (sym (one_after m b cs call))
          ∙ blind.same (after m b (cs ++ call ∷ [])) t1
          ∙ ap (λ (z : List Call). turned (after m b z) done) (sym calls);
    }

starved_same : (r : List Room) (outcomes : List Outcome) (c : ℕ) (q : Request) (t : Turn) → starved_by outcomes c q (turned r t) ≡ turned r (starved_by outcomes c q t)
starved_same r [] c q t = refl
starved_same r (Given ∷ outcomes) c q t = refl
starved_same r (JournalFault ∷ outcomes) c q t = refl
starved_same r (NoMemory ∷ outcomes) c q t = (blind_answered c q (reply.Fixed constant.NoMemory)).same r (record { course = counted outcomes t.course; live = t.live })

starved_rooms : (outcomes : List Outcome) (c : ℕ) (q : Request) (t : Turn) → (starved_by outcomes c q t).course.rooms ≡ t.course.rooms
starved_rooms [] c q t = refl
starved_rooms (Given ∷ outcomes) c q t = refl
starved_rooms (JournalFault ∷ outcomes) c q t = refl
starved_rooms (NoMemory ∷ outcomes) c q t = (blind_answered c q (reply.Fixed constant.NoMemory)).rooms (record { course = counted outcomes t.course; live = t.live })

starved_calls : (outcomes : List Outcome) (c : ℕ) (q : Request) (t : Turn) → (starved_by outcomes c q t).course.calls ≡ t.course.calls
starved_calls [] c q t = refl
starved_calls (Given ∷ outcomes) c q t = refl
starved_calls (JournalFault ∷ outcomes) c q t = refl
starved_calls (NoMemory ∷ outcomes) c q t = (blind_answered c q (reply.Fixed constant.NoMemory)).calls (record { course = counted outcomes t.course; live = t.live })

abbrev with_starved : List Bool → Turn → Turn
with_starved starved t = record { course = record t.course { starved = starved }; live = t.live }

blind_constant : (starved : List Bool) (c : ℕ) (q : Request) (f : Fixed) → Blind (constant_by starved c q f)
blind_constant [] c q f = blind_answered c q (reply.Fixed f)
blind_constant (false ∷ starved) c q f = record {
  same = λ r t. (blind_answered c q (reply.Fixed f)).same r (with_starved starved t);
  rooms = λ t. (blind_answered c q (reply.Fixed f)).rooms (with_starved starved t);
  calls = λ t. (blind_answered c q (reply.Fixed f)).calls (with_starved starved t);
}
blind_constant (true ∷ starved) c q f = record {
  same = λ r t. starved_same r t.course.outcomes c q (with_starved starved t);
  rooms = λ t. starved_rooms t.course.outcomes c q (with_starved starved t);
  calls = λ t. starved_calls t.course.outcomes c q (with_starved starved t);
}

wanted_like : (m : Manner) (a b : List Room) (w : Wanted) (c : ℕ) (q : Request) (t : Turn) → Own m a t.course → Like m a b (wanted_by m w c q) t
wanted_like m a b (Asked ask) c q t o =
    let x = asked_like m a b t.course.outcomes c q ask t o in
    record { own = x.own; more = x.more; grown = x.grown; same = x.same }
wanted_like m a b (Constant f) c q t o =
    let x = blind_like m a b (constant_by t.course.starved c q f) t (blind_constant t.course.starved c q f) o in
    record { own = x.own; more = x.more; grown = x.grown; same = x.same }

dealt_like : (m : Manner) (a b : List Room) (c : ℕ) (i : Item) (t : Turn) → Own m a t.course → Like m a b (dealt_with m c i) t
dealt_like m a b c Continue t o =
    let x = blind_like m a b (spoken c continue_bytes) t (blind_spoken c continue_bytes) o in
    record { own = x.own; more = x.more; grown = x.grown; same = x.same }
dealt_like m a b c (Whole q) t o =
    let x = wanted_like m a b (wanted q) c q t o in
    record { own = x.own; more = x.more; grown = x.grown; same = x.same }
dealt_like m a b c (Bad f) t o =
    let x = blind_like m a b (replied c (reply.Fixed f) true false) t (blind_replied c (reply.Fixed f) true false) o in
    record { own = x.own; more = x.more; grown = x.grown; same = x.same }

all_like : (m : Manner) (a b : List Room) (c : ℕ) (is : List Item) (t : Turn) → Own m a t.course → Like m a b (dealt_all m c is) t
all_like m a b c [] t o = record { own = o; more = []; grown = sym (append-nil t.course.calls); same = λ s. refl }
all_like m a b c (i ∷ is) t o =
    let first = dealt_like m a b c i t o in
    let x = by (t.live && nat_lt 0 t.course.asks) first (all_like m a b c is (dealt_with m c i t) first.own) in
    record { own = x.own; more = x.more; grown = x.grown; same = x.same }
  where
    by : (g : Bool) → (x : Like m a b (dealt_with m c i) t) → Like m a b (dealt_all m c is) (dealt_with m c i t) → Like m a b (λ z. if g then dealt_all m c is (dealt_with m c i z) else z) t
    by true x y = like_then m a b (dealt_with m c i) (dealt_all m c is) t x y
    by false x y = record { own = o; more = []; grown = sym (append-nil t.course.calls); same = λ s. refl }

-- ---- events

abbrev elsewhere : Manner → List Room → Run → Run
elsewhere m b r = record { conns = r.conns; events = r.events; course = moved m b r.course }

record LikeRun (m : Manner) (a b : List Room) (op : Run → Run) (r : Run) : Type 0 where
  own : Own m a (op r).course
  more : List Call
  grown : (op r).course.calls ≡ r.course.calls ++ more
  same : SameReplies m a b (op r).course.calls → op (elsewhere m b r) ≡ elsewhere m b (op r)

opened_like : (m : Manner) (a b : List Room) (c : ℕ) (r : Run) → Own m a r.course → LikeRun m a b (met m (Opened c)) r
opened_like m a b c r o = let x = by (is_open c r.conns || nat_lt (length r.conns) most_conns) (blind_like m a b (replied c (reply.Fixed constant.Busy) true false) (begun r.course) (blind_replied c (reply.Fixed constant.Busy) true false) o) in
    record { own = x.own; more = x.more; grown = x.grown; same = x.same }
  where
    by : (g : Bool) → Like m a b (replied c (reply.Fixed constant.Busy) true false) (begun r.course)
        → LikeRun m a b (λ z. if g then record z { conns = without c r.conns ++ (c, []) ∷ [] } else record z { course = (replied c (reply.Fixed constant.Busy) true false (begun z.course)).course }) r
    by true x = record { own = o; more = []; grown = sym (append-nil r.course.calls); same = λ s. refl }
    by false x = record { own = x.own; more = x.more; grown = x.grown; same = λ s. ap (λ (t : Turn). record r { course = t.course }) (x.same s) }

came_like : (m : Manner) (a b : List Room) (c : ℕ) (piece : List ℕ) (r : Run) → Own m a r.course → LikeRun m a b (met m (Came c piece)) r
came_like m a b c piece r o =
    let text = came_on c r.conns in
    let x = by (is_open c r.conns) text (all_like m a b c (behind (length text) (text ++ piece)) (begun r.course) o) in
    record { own = x.own; more = x.more; grown = x.grown; same = x.same }
  where
    by : (g : Bool) (text : List ℕ) → Like m a b (dealt_all m c (behind (length text) (text ++ piece))) (begun r.course)
        → LikeRun m a b (λ z. if g then Logs.kept c (text ++ piece) z (dealt_all m c (behind (length text) (text ++ piece)) (begun z.course)) else z) r
    by true text x = record { own = x.own; more = x.more; grown = x.grown; same = λ s. ap (Logs.kept c (text ++ piece) r) (x.same s) }
    by false text x = record { own = o; more = []; grown = sym (append-nil r.course.calls); same = λ s. refl }

met_like : (m : Manner) (a b : List Room) (e : Arrival) (r : Run) → Own m a r.course → LikeRun m a b (met m e) r
met_like m a b (Opened c) r o = opened_like m a b c r o
met_like m a b (Came c piece) r o = came_like m a b c piece r o
met_like m a b (Closed c) r o = record { own = o; more = []; grown = sym (append-nil r.course.calls); same = λ s. refl }
met_like m a b End r o = record { own = o; more = []; grown = sym (append-nil r.course.calls); same = λ s. refl }

run_like : (m : Manner) (a b : List Room) (es : List Arrival) (r : Run) → Own m a r.course → LikeRun m a b (run_on m es) r
run_like m a b [] r o = record { own = o; more = []; grown = sym (append-nil r.course.calls); same = λ s. refl }
run_like m a b (e ∷ es) r o =
    let first = met_like m a b e (taken e r) o in
    let x = by (is_over r) first (run_like m a b es (met m e (taken e r)) first.own) in
    record { own = x.own; more = x.more; grown = x.grown; same = x.same }
  where
    by : (g : Bool) → LikeRun m a b (met m e) (taken e r) → LikeRun m a b (run_on m es) (met m e (taken e r)) → LikeRun m a b (λ z. if g then z else run_on m es (met m e (taken e z))) r
    by true x y = record { own = o; more = []; grown = sym (append-nil r.course.calls); same = λ s. refl }
    by false x y = record {
      own = y.own;
      more = x.more ++ y.more;
      grown = y.grown ∙ ap (λ (l : List Call). l ++ y.more) x.grown ∙ append_assoc r.course.calls x.more y.more;
      same = λ s. ap (run_on m es) (x.same (same_front m a b (met m e (taken e r)).course.calls y.more (subst (SameReplies m a b) y.grown s))) ∙ y.same s;
    }

pub logs_are_alike : LogsAreAlike
unfolding run_of
logs_are_alike m rooms others events luck s =
    let x = run_like m rooms others events (begin rooms luck) refl in
    let e = x.same s in
    record {
      same_log = ap (λ (r : Run). r.course.log) e;
      same_calls = ap (λ (r : Run). r.course.calls) e;
      ended = x.own;
      others_ended = ap (λ (r : Run). r.course.rooms) e;
    }

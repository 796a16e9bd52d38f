-- How what a crash may leave adds up over asks.
use Rattle.std.proofs.Common.{◌≡◌, ◌≢◌, ◌⊎◌, ◌↔◌, inl, inr, ⊎_elim, ℕ, ◌+◌, ◌-◌, ◌*◌, ◌≤◌, Bool, true, false, IsTrue, List, [], ◌∷◌, ◌++◌, length, map, filter, refl, sym, ◌∙◌, ap, subst, arith, cond, append_assoc, append-nil, length-append}
use Rattle.std.proofs.lemmas.List.{append_cancel_left, map-append}
use Rattle.std.proofs.lemmas.Bool.{false≢true}
use Rattle.std.proofs.lemmas.List.Elements.{filter-append}
use Rattle.std.proofs.lemmas.List.Sums.{sum_by-append}
use Rattle.cube_model.specs.declared.ask.Ask.{Ask}
use Rattle.cube_model.specs.declared.outcome.Outcome.{Outcome}
use Rattle.cube_model.specs.declared.outcome.Outcome.TheVariants.{Given, JournalFault, NoMemory}
use Rattle.cube_model.specs.declared.reply.Reply.{Reply}
use Rattle.cube_model.specs.Rooms.{Room}
use Rattle.cube_io.specs.Desks.{Manner, Answered, ForeignStay, GivesRooms, LeavesAll, IsOneOf, is_fault, faults_in, has_fault, most_calls}
use Rattle.cube_io.specs.Seen.{StoreState}
use Rattle.cube_io.specs.States.{State, Log, Gained, settled}
use Rattle.cube_io.proofs.Leaving.{leaves_all_map, leaves_all_none, leaves_all_then}
use Rattle.cube_io.proofs.Outcomes.{memory_or_not}
use Rattle.cube_io.proofs.Trails.{gained_none, gained_then, gained_map}
use Rattle.cube_server.specs.Logs.{Call}
use Rattle.cube_server.specs.Seen.{DeskState, Moment}
use Rattle.cube_server.specs.Crashes.{after, Reaches, OnTheWay, FailedFresh, IsInHand, found_memory, Called, Endures}

pub after_more : (m : Manner) (rooms : List Room) (xs ys : List Call) → after m rooms (xs ++ ys) ≡ after m (after m rooms xs) ys
after_more m rooms [] ys = refl
after_more m rooms (x ∷ xs) ys = after_more m (m.next rooms x.ask x.outcome) xs ys

reaches_none : (m : Manner) (rooms : List Room) → Reaches m rooms rooms
reaches_none m rooms = ([], refl)

reaches_then : (m : Manner) (a b c : List Room) → Reaches m a b → Reaches m b c → Reaches m a c
reaches_then m a b c f g = (f.0 ++ g.0, g.1 ∙ ap (λ (r : List Room). after m r g.0) f.1 ∙ sym (after_more m a f.0 g.0))

-- ---- the asks between two states of a desk

pub fresh_more : (m : Manner) (rooms : List Room) (xs ys : List Call) → FailedFresh m rooms xs → FailedFresh m (after m rooms xs) ys → FailedFresh m rooms (xs ++ ys)
fresh_more m rooms [] ys f g = g
fresh_more m rooms (x ∷ xs) ys f g = (f.0, fresh_more m (m.next rooms x.ask x.outcome) xs ys f.1 g)

abbrev pub called_none : (d : DeskState) → Called d d []
called_none d = record { rooms_are = refl; added = []; outcomes_are = sym (append-nil d.outcomes); matched = refl; fresh = tt }

abbrev pub called_once : (ask : Ask) (o : Outcome) (a b : DeskState) → b.outcomes ≡ a.outcomes ++ o ∷ [] → b.rooms ≡ a.manner.next a.rooms ask o → (o ≡ JournalFault → a.manner.next a.rooms ask Given ≢ a.rooms) → Called a b (record { ask = ask; outcome = o } ∷ [])
called_once ask o a b added moved fresh = record { rooms_are = moved; added = o ∷ []; outcomes_are = added; matched = refl; fresh = (fresh, tt) }

abbrev pub called_then : (a b c : DeskState) (xs ys : List Call) → b.manner ≡ a.manner → Called a b xs → Called b c ys → Called a c (xs ++ ys)
called_then a b c xs ys same f g =
    let outcome_of = λ (x : Call). x.outcome in
    record {
      rooms_are = g.rooms_are
          ∙ ap (λ (m : Manner). after m b.rooms ys) same
          ∙ ap (λ (r : List Room). after a.manner r ys) f.rooms_are
          ∙ sym (after_more a.manner a.rooms xs ys);
      added = f.added ++ g.added;
      outcomes_are = g.outcomes_are ∙ ap (λ (l : List Outcome). l ++ g.added) f.outcomes_are ∙ append_assoc a.outcomes f.added g.added;
      matched = filter-append found_memory f.added g.added
          ∙ ap (λ (l : List Outcome). l ++ filter found_memory g.added) f.matched
          ∙ ap (λ (l : List Outcome). filter found_memory (map outcome_of xs) ++ l) g.matched
          ∙ sym (filter-append found_memory (map outcome_of xs) (map outcome_of ys))
          ∙ ap (filter found_memory) (sym (map-append outcome_of xs ys));
      fresh = fresh_more a.manner a.rooms xs ys f.fresh
          (subst (λ (r : List Room). FailedFresh a.manner r ys) f.rooms_are (subst (λ (m : Manner). FailedFresh m b.rooms ys) same g.fresh));
    }

-- ---- what is in the hand of asks

in_hand_front : (m : Manner) (rooms here : List Room) (xs ys : List Call) → IsInHand m rooms xs here → IsInHand m rooms (xs ++ ys) here
in_hand_front m rooms here [] [] h = h
in_hand_front m rooms here [] (y ∷ ys) h = inl h
in_hand_front m rooms here (x ∷ xs) ys (inl h) = inl h
in_hand_front m rooms here (x ∷ xs) ys (inr (inl h)) = inr (inl h)
in_hand_front m rooms here (x ∷ xs) ys (inr (inr h)) = inr (inr (in_hand_front m (m.next rooms x.ask x.outcome) here xs ys h))

in_hand_behind : (m : Manner) (rooms here : List Room) (xs ys : List Call) → IsInHand m (after m rooms xs) ys here → IsInHand m rooms (xs ++ ys) here
in_hand_behind m rooms here [] ys h = h
in_hand_behind m rooms here (x ∷ xs) ys h = inr (inr (in_hand_behind m (m.next rooms x.ask x.outcome) here xs ys h))

-- one ask that found memory
in_hand_once : (m : Manner) (gives : List Room → List ℕ → Type 0) (rooms : List Room) (call : Call) (old new : Log) → call.outcome ≢ NoMemory → LeavesAll gives (IsOneOf rooms (m.next rooms call.ask Given)) old new → LeavesAll gives (IsInHand m rooms (call ∷ [])) old new
in_hand_once m gives rooms call old new found e =
    leaves_all_map gives gives (IsOneOf rooms (m.next rooms call.ask Given)) (IsInHand m rooms (call ∷ [])) old new
    (λ x bytes one g. (x, ⊎_elim (λ same. inl same) (λ other. inr (inl (found, other))) one, g)) e

-- some asks, and then more
in_hand_then : (m n : Manner) (gives tells : List Room → List ℕ → Type 0) (rooms mid : List Room) (xs ys : List Call) (old between new : Log) → n ≡ m → mid ≡ after m rooms xs
    → ((r : List Room) (bytes : List ℕ) → tells r bytes → gives r bytes) → LeavesAll gives (IsInHand m rooms xs) old between → LeavesAll tells (IsInHand n mid ys) between new → LeavesAll gives (IsInHand m rooms (xs ++ ys)) old new
in_hand_then m n gives tells rooms mid xs ys old between new same at f first second =
    leaves_all_then gives (IsInHand m rooms (xs ++ ys)) old between new
    (leaves_all_map gives gives (IsInHand m rooms xs) (IsInHand m rooms (xs ++ ys)) old between (λ x bytes h g. (x, in_hand_front m rooms x xs ys h, g)) first)
    (leaves_all_map tells gives (IsInHand n mid ys) (IsInHand m rooms (xs ++ ys)) between new
    (λ x bytes h g. (x, in_hand_behind m rooms x xs ys (subst (λ (r : List Room). IsInHand m r ys x) at (subst (λ (k : Manner). IsInHand k mid ys x) same h)), f x bytes g)) second)

same_holds : (P : Type 0) → P ↔ P
same_holds P = (λ p. p, λ p. p)

-- nothing was asked
pub endures_none : (p : Moment) → Endures p p []
endures_none p = record {
  manner = refl;
  counted = refl;
  fewer = omega arith;
  told = refl;
  names = λ t. refl;
  asked = called_none p.desk;
  within_stays = λ r k st. same_holds (p.within r k st);
  exact_stays = λ r k st. same_holds (p.exact r k st);
  passed = λ t k h. gained_none _ (p.store.logs k) (p.store.logs k) refl;
  stays_within = λ t k h. h;
  stays_exact = λ n t k h. h;
  in_hand = λ t k h. leaves_all_none (GivesRooms p.exact k) (IsInHand p.desk.manner p.desk.rooms []) (p.store.logs k) (p.store.logs k) refl;
  others = λ t k no. refl;
  more = omega arith;
  later = omega arith;
  steady = λ n. refl;
  risen = omega arith;
  few = λ t. omega arith;
  spared = λ n. refl;
}

-- ---- how often the store was called

fault_stays : (xs ys : List Outcome) → has_fault xs ≡ true → has_fault (xs ++ ys) ≡ true
fault_stays [] ys h = absurd (false≢true h)
fault_stays (Given ∷ xs) ys h = fault_stays xs ys h
fault_stays (JournalFault ∷ xs) ys h = refl
fault_stays (NoMemory ∷ xs) ys h = fault_stays xs ys h

-- so many calls at most for each of some asks, and for each of some more
calls_add : (b c : Bool) (k l x y z : ℕ) → (b ≡ true → c ≡ true) → y ≤ x + cond b 4 2 * k → z ≤ y + cond c 4 2 * l → z ≤ x + cond c 4 2 * (k + l)
calls_add true true k l x y z h f g = omega (arith, f, g)
calls_add true false k l x y z h f g = absurd (false≢true (h refl))
calls_add false true k l x y z h f g = omega (arith, f, g)
calls_add false false k l x y z h f g = omega (arith, f, g)

calls_once : (b c : Bool) (m n x y : ℕ) → n + 1 ≡ m → (b ≡ true → c ≡ true) → y ≤ x + cond b 4 2 → y ≤ x + cond c 4 2 * (m - n)
calls_once true true m n x y one h f = let k : m - n ≡ 1 = omega (arith, one) in rw k (omega (arith, f))
calls_once true false m n x y one h f = absurd (false≢true (h refl))
calls_once false true m n x y one h f = let k : m - n ≡ 1 = omega (arith, one) in rw k (omega (arith, f))
calls_once false false m n x y one h f = let k : m - n ≡ 1 = omega (arith, one) in rw k (omega (arith, f))

calls_then : (b c : Bool) (m n o x y z : ℕ) → n ≤ m → o ≤ n → (b ≡ true → c ≡ true) → y ≤ x + cond b 4 2 * (m - n) → z ≤ y + cond c 4 2 * (n - o) → z ≤ x + cond c 4 2 * (m - o)
calls_then b c m n o x y z first second h f g = let k : (m - n) + (n - o) ≡ m - o = omega (arith, first, second) in subst (λ (i : ℕ). z ≤ x + cond c 4 2 * i) k (calls_add b c (m - n) (n - o) x y z h f g)

-- ---- who was spared

none_left : (xs ys : List Outcome) → xs ++ ys ≡ [] → (xs ≡ []) × (ys ≡ [])
none_left [] ys e = (refl, e)
none_left (x ∷ xs) ys e = absurd (cc)

spared_then : (xs ys : List Call) → filter found_memory (map (λ c. c.outcome) (xs ++ ys)) ≡ [] → (filter found_memory (map (λ c. c.outcome) xs) ≡ []) × (filter found_memory (map (λ c. c.outcome) ys) ≡ [])
spared_then xs ys e =
    let outcome_of = λ (x : Call). x.outcome in
    none_left (filter found_memory (map outcome_of xs)) (filter found_memory (map outcome_of ys))
    (sym (filter-append found_memory (map outcome_of xs) (map outcome_of ys)) ∙ ap (filter found_memory) (sym (map-append outcome_of xs ys)) ∙ e)

-- an ask that found memory is one that did
found_one : (o : Outcome) → filter found_memory (o ∷ []) ≡ [] → o ≡ NoMemory
found_one Given e = absurd (cc)
found_one JournalFault e = absurd (cc)
found_one NoMemory e = refl

count_more : (xs : List Outcome) (o : Outcome) → faults_in (xs ++ o ∷ []) ≡ faults_in xs + faults_in (o ∷ [])
count_more xs o = sum_by-append (λ x. cond (is_fault x) 1 0) xs (o ∷ [])

both_ways : (P Q R : Type 0) → Q ↔ P → R ↔ Q → R ↔ P
both_ways P Q R f g = (λ r. f.0 (g.0 r), λ p. g.1 (f.1 p))

-- some asks, and then more
pub endures_then : (p q r : Moment) (xs ys : List Call) → Endures p q xs → Endures q r ys → Endures p r (xs ++ ys)
endures_then p q r xs ys f g =
    let a = p.desk in
    let b = q.desk in
    let c = r.desk in
    let s = p.store in
    let t = q.store in
    let u = r.store in
    let w = p.within in
    let fewer = f.more in
    let few = g.more in
    let first : Reaches a.manner a.rooms b.rooms = (xs, f.asked.rooms_are) in
    let onward : Reaches a.manner b.rooms c.rooms = subst (λ (m : Manner). Reaches m b.rooms c.rooms) f.manner (ys, g.asked.rooms_are) in
    record {
      manner = g.manner ∙ f.manner;
      counted = g.counted ∙ f.counted;
      fewer = omega (arith, f.fewer, g.fewer);
      told = g.told ∙ f.told;
      names = λ h. g.names (rw f.told h) ∙ f.names h;
      asked = called_then a b c xs ys f.manner f.asked g.asked;
      within_stays = λ rs k st. both_ways (w rs k st) (q.within rs k st) (r.within rs k st) (f.within_stays rs k st) (g.within_stays rs k st);
      exact_stays = λ rs k st. both_ways (p.exact rs k st) (q.exact rs k st) (r.exact rs k st) (f.exact_stays rs k st) (g.exact_stays rs k st);
      passed = λ h k e.
          gained_then (OnTheWay a.manner w a.rooms c.rooms k) (s.logs k) (t.logs k) (u.logs k)
          (gained_map (OnTheWay a.manner w a.rooms b.rooms k) (OnTheWay a.manner w a.rooms c.rooms k) (s.logs k) (t.logs k)
          (λ st y. record { here = y.here; from = y.from; to = reaches_then a.manner y.here b.rooms c.rooms y.to onward; there = y.there })
          (f.passed h k e))
          (gained_map (OnTheWay b.manner q.within b.rooms c.rooms k) (OnTheWay a.manner w a.rooms c.rooms k) (t.logs k) (u.logs k)
          (λ st y. record {
            here = y.here;
            from = reaches_then a.manner a.rooms b.rooms y.here first (subst (λ (m : Manner). Reaches m b.rooms y.here) f.manner y.from);
            to = subst (λ (m : Manner). Reaches m y.here c.rooms) f.manner y.to;
            there = (f.within_stays y.here k st).0 y.there;
          })
          (g.passed (rw f.told h) k (f.stays_within h k e)));
      stays_within = λ h k e. g.stays_within (rw f.told h) k (f.stays_within h k e);
      stays_exact = λ same h k e.
          let first : faults_in b.outcomes ≡ faults_in a.outcomes = omega (arith, same, fewer, few) in
          let second : faults_in c.outcomes ≡ faults_in b.outcomes = omega (arith, same, fewer, few) in
          g.stays_exact second (rw f.told h) k (f.stays_exact first h k e);
      in_hand = λ h k e.
          in_hand_then a.manner b.manner (GivesRooms p.exact k) (GivesRooms q.exact k) a.rooms b.rooms xs ys (s.logs k) (t.logs k) (u.logs k) f.manner f.asked.rooms_are
          (λ rs bytes y. (f.exact_stays rs k (settled bytes)).0 y) (f.in_hand h k e) (g.in_hand (rw f.told h) k (f.stays_within h k e));
      others = λ h k no. g.others (rw f.told h) k (λ rs st y. no rs st ((f.within_stays rs k st).0 y)) ∙ f.others h k no;
      more = omega (arith, fewer, few);
      later = omega (arith, f.later, g.later);
      steady = λ same.
          let first : faults_in b.outcomes ≡ faults_in a.outcomes = omega (arith, same, fewer, few) in
          let second : faults_in c.outcomes ≡ faults_in b.outcomes = omega (arith, same, fewer, few) in
          g.steady second ∙ f.steady first;
      risen = omega (arith, fewer, few, f.risen, g.risen, f.later, g.later);
      few = λ h.
          calls_then (has_fault b.outcomes) (has_fault c.outcomes) a.capacity b.capacity c.capacity s.calls t.calls u.calls f.fewer g.fewer
          (λ is. subst (λ (os : List Outcome). has_fault os ≡ true) (sym g.asked.outcomes_are) (fault_stays b.outcomes g.asked.added is))
          (f.few h) (g.few (rw f.told h));
      spared = λ none. let n = spared_then xs ys none in g.spared n.1 ∙ f.spared n.0;
    }

not_fault : (o : Outcome) (outs outs' : List Outcome) → o ≢ JournalFault → outs' ≡ outs ++ o ∷ [] → outs' ≢ outs ++ JournalFault ∷ []
not_fault o outs outs' n e f = n (cons_same o JournalFault (append_cancel_left outs (o ∷ []) (JournalFault ∷ []) (sym e ∙ f)))
  where
    cons_same : (a b : Outcome) → a ∷ [] ≡ b ∷ [] → a ≡ b
    cons_same a b e = cc

-- how often the journal failed in one ask
count_of : (o : Outcome) → o ≢ JournalFault → faults_in (o ∷ []) ≡ 0
count_of Given n = refl
count_of JournalFault n = absurd (n refl)
count_of NoMemory n = refl

is_or_not : (o : Outcome) → (o ≡ JournalFault) ⊎ (o ≢ JournalFault)
is_or_not Given = inr (λ e. cc)
is_or_not JournalFault = inl refl
is_or_not NoMemory = inr (λ e. cc)

-- what the clauses of one answer say
pub record OneAnswer (ask : Ask) (reply : Reply) (p q : Moment) : Type 0 where
  pub answered : Answered p.desk.manner ask p.desk.rooms q.desk.rooms p.desk.outcomes q.desk.outcomes p.store.faults q.store.faults reply
  pub manner : q.desk.manner ≡ p.desk.manner
  pub capacity : q.desk.capacity + 1 ≡ p.desk.capacity
  pub told : q.store.told ≡ p.store.told
  pub names : IsTrue p.store.told → q.store.names ≡ p.store.names
  pub memory : q.desk.outcomes ≡ p.desk.outcomes ++ NoMemory ∷ [] → q.store ≡ p.store
  pub calls : IsTrue p.store.told → q.store.calls ≤ p.store.calls + most_calls p.desk.outcomes
  pub within_stays : (r : List Room) (log : ℕ) (state : State) → q.within r log state ↔ p.within r log state
  pub exact_stays : (r : List Room) (log : ℕ) (state : State) → q.exact r log state ↔ p.exact r log state
  pub passed : IsTrue p.store.told → (log : ℕ) → p.within p.desk.rooms log (p.store.logs log).state → Gained (λ state. p.within p.desk.rooms log state ⊎ p.within q.desk.rooms log state) (p.store.logs log) (q.store.logs log)
  pub within : IsTrue p.store.told → (log : ℕ) → p.within p.desk.rooms log (p.store.logs log).state → q.within q.desk.rooms log (q.store.logs log).state
  pub exact : q.desk.outcomes ≢ p.desk.outcomes ++ JournalFault ∷ [] → IsTrue p.store.told → (log : ℕ) → p.exact p.desk.rooms log (p.store.logs log).state → q.exact q.desk.rooms log (q.store.logs log).state
  pub in_hand : IsTrue p.store.told → (log : ℕ) → p.within p.desk.rooms log (p.store.logs log).state → LeavesAll (GivesRooms p.exact log) (IsOneOf p.desk.rooms (p.desk.manner.next p.desk.rooms ask Given)) (p.store.logs log) (q.store.logs log)
  pub others : ForeignStay p.within p.store q.store

one_more : (o : Outcome) (xs ys : List Outcome) (m n : ℕ) → ys ≡ xs ++ o ∷ [] → n + 1 ≡ m → n + length ys ≡ m + length xs
one_more o xs ys m n added one = omega (arith, one, ap length added ∙ length-append xs (o ∷ []))

pub endures_answer : (ask : Ask) (reply : Reply) (p q : Moment) → (one : OneAnswer ask reply p q) → Endures p q (record { ask = ask; outcome = one.answered.outcome } ∷ [])
endures_answer ask reply p q one = by (is_or_not one.answered.outcome)
  where
    out : Outcome
    out = one.answered.outcome

    call : Call
    call = record { ask = ask; outcome = out }

    way : Reaches p.desk.manner p.desk.rooms q.desk.rooms
    way = (call ∷ [], one.answered.moved)

    called : Called p.desk q.desk (call ∷ [])
    called = called_once ask out p.desk q.desk one.answered.added one.answered.moved (λ is. (one.answered.failed is).1)

    count : faults_in q.desk.outcomes ≡ faults_in p.desk.outcomes + faults_in (out ∷ [])
    count = ap faults_in one.answered.added ∙ count_more p.desk.outcomes out

    gone : IsTrue p.store.told → (log : ℕ) → p.within p.desk.rooms log (p.store.logs log).state → Gained (OnTheWay p.desk.manner p.within p.desk.rooms q.desk.rooms log) (p.store.logs log) (q.store.logs log)
    gone h k e = gained_map (λ state. p.within p.desk.rooms k state ⊎ p.within q.desk.rooms k state) (OnTheWay p.desk.manner p.within p.desk.rooms q.desk.rooms k) (p.store.logs k) (q.store.logs k) (λ st y. side k st y) (one.passed h k e)
      where
        side : (k : ℕ) (st : State) → (p.within p.desk.rooms k st ⊎ p.within q.desk.rooms k st) → OnTheWay p.desk.manner p.within p.desk.rooms q.desk.rooms k st
        side k st (inl y) = record { here = p.desk.rooms; from = reaches_none p.desk.manner p.desk.rooms; to = way; there = y }
        side k st (inr y) = record { here = q.desk.rooms; from = way; to = reaches_none p.desk.manner q.desk.rooms; there = y }

    held : IsTrue p.store.told → (log : ℕ) → p.within p.desk.rooms log (p.store.logs log).state → LeavesAll (GivesRooms p.exact log) (IsInHand p.desk.manner p.desk.rooms (call ∷ [])) (p.store.logs log) (q.store.logs log)
    held h k e = ⊎_elim
        (λ is. leaves_all_none (GivesRooms p.exact k) (IsInHand p.desk.manner p.desk.rooms (call ∷ [])) (p.store.logs k) (q.store.logs k)
        (ap (λ (z : StoreState). z.logs k) (one.memory (one.answered.added ∙ ap (λ (o : Outcome). p.desk.outcomes ++ o ∷ []) is))))
        (λ found. in_hand_once p.desk.manner (GivesRooms p.exact k) p.desk.rooms call (p.store.logs k) (q.store.logs k) found (one.in_hand h k e))
        (memory_or_not out)

    called_few : IsTrue p.store.told → q.store.calls ≤ p.store.calls + most_calls q.desk.outcomes * (p.desk.capacity - q.desk.capacity)
    called_few h =
        calls_once (has_fault p.desk.outcomes) (has_fault q.desk.outcomes) p.desk.capacity q.desk.capacity p.store.calls q.store.calls one.capacity
        (λ is. subst (λ (os : List Outcome). has_fault os ≡ true) (sym one.answered.added) (fault_stays p.desk.outcomes (out ∷ []) is))
        (one.calls h)

    spares : filter found_memory (out ∷ []) ≡ [] → q.store ≡ p.store
    spares none = one.memory (one.answered.added ∙ ap (λ (o : Outcome). p.desk.outcomes ++ o ∷ []) (found_one out none))

    by : ((out ≡ JournalFault) ⊎ (out ≢ JournalFault)) → Endures p q (call ∷ [])
    by (inl is) =
        let c : faults_in q.desk.outcomes ≡ faults_in p.desk.outcomes + 1 = count ∙ ap (λ (z : Outcome). faults_in p.desk.outcomes + faults_in (z ∷ [])) is in
        let rose = (one.answered.failed is).0 in
        record {
          manner = one.manner;
          counted = one_more out p.desk.outcomes q.desk.outcomes p.desk.capacity q.desk.capacity one.answered.added one.capacity;
          fewer = omega (arith, one.capacity);
          told = one.told;
          names = one.names;
          asked = called;
          within_stays = one.within_stays;
          exact_stays = one.exact_stays;
          passed = gone;
          stays_within = one.within;
          stays_exact = λ same. absurd (omega (arith, same, c));
          in_hand = held;
          others = one.others;
          more = omega (arith, c);
          later = one.answered.later;
          steady = λ same. absurd (omega (arith, same, c));
          risen = omega (arith, c, rose);
          few = called_few;
          spared = spares;
        }
    by (inr other) =
        let c : faults_in q.desk.outcomes ≡ faults_in p.desk.outcomes = count ∙ ap (λ (z : ℕ). faults_in p.desk.outcomes + z) (count_of out other) ∙ omega arith in
        let same : q.store.faults ≡ p.store.faults = one.answered.steady other in
        record {
          manner = one.manner;
          counted = one_more out p.desk.outcomes q.desk.outcomes p.desk.capacity q.desk.capacity one.answered.added one.capacity;
          fewer = omega (arith, one.capacity);
          told = one.told;
          names = one.names;
          asked = called;
          within_stays = one.within_stays;
          exact_stays = one.exact_stays;
          passed = gone;
          stays_within = one.within;
          stays_exact = λ e. one.exact (not_fault out p.desk.outcomes q.desk.outcomes other one.answered.added);
          in_hand = held;
          others = one.others;
          more = omega (arith, c);
          later = one.answered.later;
          steady = λ e. same;
          risen = omega (arith, c, same);
          few = called_few;
          spared = spares;
        }

-- an ask that found no memory: it left the rooms, and that one outcome
pub record OneMiss (a b : DeskState) : Type 0 where
  pub manner : b.manner ≡ a.manner
  pub rooms : b.rooms ≡ a.rooms
  pub capacity : b.capacity + 1 ≡ a.capacity
  pub added : b.outcomes ≡ a.outcomes ++ NoMemory ∷ []

abbrev pub called_missed : (a b : DeskState) → OneMiss a b → Called a b []
called_missed a b one = record { rooms_are = one.rooms; added = NoMemory ∷ []; outcomes_are = one.added; matched = refl; fresh = tt }

pub endures_miss : (p q : Moment) (calls : List Call) → OneMiss p.desk q.desk → Called p.desk q.desk calls → q.store ≡ p.store
    → ((r : List Room) (log : ℕ) (state : State) → q.within r log state ↔ p.within r log state) → ((r : List Room) (log : ℕ) (state : State) → q.exact r log state ↔ p.exact r log state) → Endures p q calls
endures_miss p q calls one asked same ws xs =
    let a = p.desk in
    let b = q.desk in
    let s = p.store in
    let c : faults_in b.outcomes ≡ faults_in a.outcomes = ap faults_in one.added ∙ count_more a.outcomes NoMemory ∙ omega arith in
    let logs = λ (k : ℕ). ap (λ (z : StoreState). z.logs k) same in
    let faults = ap (λ (z : StoreState). z.faults) same in
    let times = ap (λ (z : StoreState). z.calls) same in
    record {
      manner = one.manner;
      counted = one_more NoMemory a.outcomes b.outcomes a.capacity b.capacity one.added one.capacity;
      fewer = omega (arith, one.capacity);
      told = ap (λ (z : StoreState). z.told) same;
      names = λ h. ap (λ (z : StoreState). z.names) same;
      asked = asked;
      within_stays = ws;
      exact_stays = xs;
      passed = λ h k e. gained_none _ (s.logs k) (q.store.logs k) (logs k);
      stays_within = λ h k e. rw (one.rooms, logs k) ((ws a.rooms k (s.logs k).state).1 e);
      stays_exact = λ n h k e. rw (one.rooms, logs k) ((xs a.rooms k (s.logs k).state).1 e);
      in_hand = λ h k e. leaves_all_none (GivesRooms p.exact k) (IsInHand a.manner a.rooms calls) (s.logs k) (q.store.logs k) (logs k);
      others = λ h k no. logs k;
      more = omega (arith, c);
      later = omega (arith, faults);
      steady = λ n. faults;
      risen = omega (arith, c, faults);
      few = λ h. omega (arith, times);
      spared = λ n. same;
    }

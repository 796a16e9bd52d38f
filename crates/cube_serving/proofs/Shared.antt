-- What groups over one core that served a wire tell, and what they leave of their logs.
use Rattle.std.proofs.Common.{◌≡◌, ◌∙◌, ◌<◌, ◌≤◌, ◌+◌, ◌-◌, ◌*◌, refl, sym, ap, ap₂, subst, ℕ, suc, Bool, true, false, cond, List, [], ◌∷◌, ◌++◌, length, map, inl, inr, IsTrue, arith}
use Rattle.std.specs.Prelude.{◌⊎◌, Result}
use Rattle.cube_model.specs.declared.entry.Entry.{Entry}
use Rattle.cube_model.specs.declared.outcome.Outcome.{Outcome}
use Rattle.cube_model.specs.declared.policy.Policy.{Policy}
use Rattle.cube_model.specs.Cores.{Core, IsCore, shown, world}
use Rattle.cube_model.specs.Cubes.{Each}
use Rattle.cube_model.specs.Dims.{Dims}
use Rattle.cube_model.specs.Policies.{IsPolicy}
use Rattle.cube_model.specs.Rooms.{Room, AreApart, ended}
use Rattle.cube_model.specs.Verdicts.{IsAdmissible}
use Rattle.cube_io.specs.Desks.{Manner, has_fault, most_calls}
use Rattle.cube_io.specs.Seen.{StoreState, seen}
use Rattle.cube_io.specs.States.{State, Gained}
use Rattle.cube_journal.specs.Keeping.{IsInRecovery}
use Rattle.cube_io.specs.Wires.{LogEntry, events_in}
use Rattle.cube_engine.specs.Kept.{history_of, IsExact, IsWithin}
use Rattle.cube_engine.specs.Steps.{by_words, manner}
use Rattle.cube_engine.specs.Worlds.{IsRuled}
use Rattle.cube_server.specs.Alike.{SameReplies}
use Rattle.cube_server.specs.Crashes.{after, Called, Endures, FailedFresh, IsInHand}
use Rattle.cube_server.specs.Logs.{Call as Reached, calls_of}
use Rattle.cube_server.specs.Seen.{DeskState, Moment}
use Rattle.cube_server.specs.Steps.{Serves}
use Rattle.cube_server.specs.declared.serving.ServeFault.{ServeFault}
use Rattle.cube_server.proofs.Likeness.{logs_are_alike}
use Rattle.cube_talk.specs.Talk.{max_input}
use Rattle.cube_starting.specs.Grouping.{GroupRun, first_room, last_room, first_rooms, last_rooms, AreRunsOf}
use Rattle.cube_starting.specs.NamedBooks.{Groups, rooms_of, dims_of, AreInOrder, AreNumbered, places_of, HoldsAt}
use Rattle.cube_serving.specs.Serving.{Asking, desk_before, desk_behind, turn_of, luck_in, Tells, Wired, RoomHas, IsInTurn, HoldFrom, SurviveFrom, ServeWire}
use Rattle.cube_serving.specs.Serving.{Ends}
use Rattle.cube_starting.specs.Starting.{SurvivedIn, RecoversIn, HeldIn}
use Rattle.cube_starting.specs.declared.named.NamedBook.{NamedBook}
use Rattle.cube_serving.proofs.Grouped.{after_is, each_by_itself, group_hides}
use Rattle.cube_starting.proofs.Lists.{all_map, each_at, each_both, each_in, each_map, map_at, map_twice}
use Rattle.cube_serving.proofs.GroupLogs.{Asks, WereAsked, behind, each_book, survived, held_meanwhile}
use Rattle.cube_starting.proofs.Placed.{each_here}

-- ---- the runs of books

-- the run of a book that asks lead on
pub run_from : Dims → List Reached → NamedBook → GroupRun
run_from s calls b = record { name = b.name; policy = b.book.policy; first = b.book.history; last = behind s calls b }

-- a room over a core
room_over : NamedBook → List Entry → Core → Room
room_over b h c = record { name = b.name; world = world c b.book.policy; history = h }

-- over one core
abbrev Over : Core → List NamedBook → Type 0
Over core bs = Each (λ b. b.book.core ≡ core) bs

module _ (core : Core) (calls : List Reached) where
  abbrev s : Dims
  s = core.dims

  abbrev runs_of : List NamedBook → List GroupRun
  runs_of bs = map (run_from s calls) bs

  runs : (bs : List NamedBook) → AreRunsOf bs (runs_of bs)
  unfolding run_from
  runs [] = tt
  runs (b ∷ bs) = ((refl, refl, refl), runs bs)

  firsts : (bs : List NamedBook) → Over core bs → first_rooms core (runs_of bs) ≡ rooms_of bs
  unfolding run_from room_over
  firsts [] a = refl
  firsts (b ∷ bs) a = ap₂ (λ (r : Room) (rs : List Room). r ∷ rs) (ap (room_over b b.book.history) (sym a.0)) (firsts bs a.1)

  lasts : (bs : List NamedBook) → Over core bs → last_rooms core (runs_of bs) ≡ map (ended (by_words s) (map turn_of calls)) (rooms_of bs)
  unfolding run_from room_over
  lasts [] a = refl
  lasts (b ∷ bs) a = ap₂ (λ (r : Room) (rs : List Room). r ∷ rs) (ap (room_over b (behind s calls b)) (sym a.0)) (lasts bs a.1)

  -- what is known of them
  ruled : (bs : List NamedBook) → Over core bs → Each (λ b. IsRuled b.book) bs → Each (λ (g : GroupRun). IsPolicy core.dims g.policy × IsAdmissible (shown core g.policy) g.first) (runs_of bs)
  unfolding run_from
  ruled bs a r = each_map (λ (g : GroupRun). IsPolicy core.dims g.policy × IsAdmissible (shown core g.policy) g.first) (run_from s calls) bs
      (each_both (λ b. b.book.core ≡ core) (λ b. IsRuled b.book) (λ b. IsPolicy core.dims b.book.policy × IsAdmissible (shown core b.book.policy) b.book.history) bs
      (λ b is k. (subst (λ (c : Core). IsPolicy c.dims b.book.policy) is k.policy, subst (λ (c : Core). IsAdmissible (shown c b.book.policy) b.book.history) is k.admissible)) a r)

first_core : (core : Core) (bs : List NamedBook) → 1 ≤ length bs → Over core bs → Each (λ b. IsRuled b.book) bs → IsCore core
first_core core [] some a r = absurd (omega (arith, some))
first_core core (b ∷ bs) some a r = subst IsCore a.0 (r.0).core

first_dims : (core : Core) (bs : List NamedBook) → 1 ≤ length bs → Over core bs → dims_of bs ≡ core.dims
first_dims core [] some a = absurd (omega (arith, some))
first_dims core (b ∷ bs) some a = ap (λ (c : Core). c.dims) a.0

-- a log behind those of the books keeps none of their histories
pub foreign : (P : Core → Policy → List Entry → State → Type 0) (k : ℕ) (bs : List NamedBook) (rooms : List Room) (log : ℕ) (st : State) → AreNumbered k bs → (log < 0) ⊎ (k + length bs ≤ log) → HoldsAt P (places_of bs) rooms log st → ⊥
foreign P k [] rooms log st a far h = h
foreign P k (b ∷ bs) [] log st a far h = h
foreign P k (b ∷ bs) (r ∷ rooms) log st a (inl far) h = absurd (omega (arith, far))
foreign P k (b ∷ bs) (r ∷ rooms) log st a (inr far) (inl x) = let at = a.0 in let is = x.0 in omega (arith, at, is, far)
foreign P k (b ∷ bs) (r ∷ rooms) log st a (inr far) (inr x) = foreign P (suc k) bs rooms log st a.1 (inr (omega (arith, far))) x

-- ---- the desk

desk : Manner → List Room → ℕ → List Outcome → DeskState
desk m rooms left outcomes = record { manner = m; rooms = rooms; capacity = left; outcomes = outcomes }

desk_is : (m m' : Manner) (rooms rooms' : List Room) (left : ℕ) (os os' : List Outcome) → m ≡ m' → rooms ≡ rooms' → os ≡ os' → desk m rooms left os ≡ desk m' rooms' left os'
desk_is m m' rooms rooms' left os os' e f g = ap (λ (x : Manner). desk x rooms left os) e ∙ ap (λ (x : List Room). desk m' x left os) f ∙ ap (λ (x : List Outcome). desk m' rooms' left x) g

same_self : (m : Manner) (rooms : List Room) (calls : List Reached) → SameReplies m rooms rooms calls
same_self m rooms [] = tt
same_self m rooms (c ∷ calls) = (refl, same_self m (m.next rooms c.ask c.outcome) calls)

-- groups as a desk
abbrev pub desk_at : Groups → DeskState
desk_at e = record { manner = manner (dims_of e.books); rooms = rooms_of e.books; capacity = e.left; outcomes = e.outcomes }

-- two calls or four
four_at_most : (b : Bool) (n x y : ℕ) → y ≤ x + cond b 4 2 * n → y ≤ x + 4 * n
four_at_most true n x y f = f
four_at_most false n x y f = omega (arith, f)

-- Groups over one core were asked so, which had been asked nothing before.
pub record AreAsked (core : Core) (e last : Groups) (calls : List Reached) : Type 0 where
  pub some : 1 ≤ length e.books
  pub over : Over core e.books
  pub rules : Each (λ b. IsRuled b.book) e.books
  pub order : AreInOrder e.books
  pub unasked : e.outcomes ≡ []
  pub same : manner (dims_of last.books) ≡ manner (dims_of e.books)
  pub asked : Called (desk_at e) (desk_at last) calls

-- groups and a store at one moment
abbrev pub groups_at : Groups → StoreState → Moment
groups_at e store = record { desk = desk_at e; exact = HoldsAt IsExact (places_of e.books); within = HoldsAt IsWithin (places_of e.books); store = store }

module _ (core : Core) (e last : Groups) (calls : List Reached) (x : AreAsked core e last calls) where
  abbrev gs : List GroupRun
  gs = map (run_from core.dims calls) e.books

  abbrev a : Asking
  a = record { groups = gs; stated = e.left; left = last.left; outcomes = last.outcomes }

  dims_are : dims_of e.books ≡ core.dims
  dims_are = first_dims core e.books x.some x.over

  -- the desk before the asks and behind them, by the runs
  before_is : desk_at e ≡ desk_before core a
  unfolding desk
  before_is = desk_is (manner (dims_of e.books)) (manner core.dims) (rooms_of e.books) (first_rooms core gs) e.left e.outcomes [] (ap manner dims_are) (sym (firsts core calls e.books x.over)) x.unasked

  led : rooms_of last.books ≡ map (ended (by_words core.dims) (map turn_of calls)) (rooms_of e.books)
  led = x.asked.rooms_are ∙ ap (λ (d : Dims). after (manner d) (rooms_of e.books) calls) dims_are ∙ after_is core.dims (rooms_of e.books) calls

  behind_is : desk_at last ≡ desk_behind core a
  unfolding desk
  behind_is = desk_is (manner (dims_of last.books)) (manner core.dims) (rooms_of last.books) (last_rooms core gs) last.left last.outcomes last.outcomes (x.same ∙ ap manner dims_are) (led ∙ sym (lasts core calls e.books x.over)) refl

  apart : AreApart (first_rooms core gs)
  apart = subst AreApart (sym (firsts core calls e.books x.over)) x.order.apart

  -- what the log tells
  told : (log : List LogEntry) → Serves (desk_before core a) (desk_behind core a) max_input log calls → Tells core a log calls
  told log served =
      let events = events_in log in
      let luck = luck_in core a log served.outcomes served.starved in
      let rooms = first_rooms core gs in
      let m = manner core.dims in
      let ran = calls_of m rooms events luck in
      let self = logs_are_alike m rooms rooms events luck (same_self m rooms ran) in
      let at : map (last_room core) gs ≡ map (λ g. ended (by_words core.dims) (map turn_of ran) (first_room core g)) gs =
      served.ended ∙ self.ended ∙ after_is core.dims rooms ran ∙ map_twice (first_room core) (ended (by_words core.dims) (map turn_of ran)) (λ g. ended (by_words core.dims) (map turn_of ran) (first_room core g)) gs (λ g. refl) in
      let known = ruled core calls e.books x.over x.rules in
      record {
        served = served;
        apart = each_by_itself core gs events luck log served.told apart;
        hides = each_in _ gs (λ g k.
            let here = each_at (λ (r : GroupRun). IsPolicy core.dims r.policy × IsAdmissible (shown core r.policy) r.first) gs g known k in
            group_hides core gs events luck log served.told apart g k (first_core core e.books x.some x.over x.rules) here.0 here.1
            (ap (λ (r : Room). r.history) (map_at (last_room core) (λ r. ended (by_words core.dims) (map turn_of ran) (first_room core r)) gs g at k)));
      }

  -- what was asked, over the runs
  asked_runs : Called (desk_before core a) (desk_behind core a) calls
  asked_runs = record {
    rooms_are = lasts core calls e.books x.over ∙ sym (after_is core.dims (rooms_of e.books) calls) ∙ ap (λ (rs : List Room). after (manner core.dims) rs calls) (sym (firsts core calls e.books x.over));
    added = x.asked.added;
    outcomes_are = x.asked.outcomes_are ∙ ap (λ (os : List Outcome). os ++ x.asked.added) x.unasked;
    matched = x.asked.matched;
    fresh = subst (λ (m : Manner). FailedFresh m (first_rooms core gs) calls) (ap manner dims_are)
        (subst (λ (rs : List Room). FailedFresh (manner (dims_of e.books)) rs calls) (sym (firsts core calls e.books x.over)) x.asked.fresh);
  }

  pub wired : (end_is : Result (Unit {0}) ServeFault) (is_told : Bool) (log : List LogEntry) → Ends end_is is_told (desk_at e) (desk_at last) log → last.left + length last.outcomes ≡ e.left + length e.outcomes → (IsTrue is_told → Serves (desk_at e) (desk_at last) max_input log calls) → Wired core a end_is is_told log
  wired end_is is_told log ends counted serves = record {
    ended = subst (λ (d : DeskState). Ends end_is is_told d (desk_behind core a) log) before_is (subst (λ (d : DeskState). Ends end_is is_told (desk_at e) d log) behind_is ends);
    counted = (let none = ap (λ (os : List Outcome). length os) x.unasked in omega (arith, counted, none));
    calls = calls;
    asked = asked_runs;
    tells = λ are. told log (subst (λ (d : DeskState). Serves d (desk_behind core a) max_input log calls) before_is (subst (λ (d : DeskState). Serves (desk_at e) d max_input log calls) behind_is (serves are)));
  }

  -- what was left of the logs
  abbrev Lives : StoreState → StoreState → Type 0
  Lives st st' = Endures (groups_at e st) (groups_at last st') calls

  abbrev asks : Asks
  asks = record { dims = core.dims; calls = calls; stated = e.left; last = desk_at last; exact = HoldsAt IsExact (places_of last.books); within = HoldsAt IsWithin (places_of last.books) }

  were : (st st' : StoreState) (v : Lives st st') → WereAsked asks st st' e.books
  unfolding desk
  were st st' v =
      let bs = e.books in
      let begun = desk_is (manner (dims_of bs)) (manner core.dims) (rooms_of bs) (rooms_of bs) e.left e.outcomes [] (ap manner dims_are) refl x.unasked in
      record {
        numbered = x.order.numbered;
        leads = x.asked.rooms_are ∙ ap (λ (d : Dims). after (manner d) (rooms_of bs) calls) dims_are;
        endures = subst (λ (d : DeskState). Endures (record { desk = d; exact = HoldsAt IsExact (places_of bs); within = HoldsAt IsWithin (places_of bs); store = st }) (groups_at last st') calls) begun v;
      }

  -- each log is as the asks left it, seen from before the opening
  pub survive : {S : Type 0} (tells : S → StoreState) (mid new : S) (v : Lives (tells mid) (tells new)) → SurviveFrom tells core a mid new
  unfolding run_from
  survive {S} tells mid new v = λ are opened told_same.
      let s = core.dims in
      all_map (λ k (g : GroupRun). IsExact core g.policy g.first ((tells mid).logs k).state → RecoversIn k core g.policy (seen tells opened mid) → SurvivedIn k core g.policy g.first g.last last.outcomes (seen tells opened new)) (run_from s calls) 0 e.books
      (each_book (λ k b. IsExact core b.book.policy b.book.history ((tells mid).logs k).state → RecoversIn k core b.book.policy (seen tells opened mid) → SurvivedIn k core b.book.policy b.book.history (behind s calls b) last.outcomes (seen tells opened new)) e.books
      (λ front back g is.
      let c : g.book.core ≡ core = each_here (λ b. b.book.core ≡ core) g front back (subst (Over core) is x.over) in
      let w = subst (WereAsked asks (tells mid) (tells new)) is (were (tells mid) (tells new) v) in
      let k = length front in
      λ is_exact recovers. subst (λ (q : Core). SurvivedIn k q g.book.policy g.book.history (behind s calls g) last.outcomes (seen tells opened new)) c
      (survived asks (tells mid) (seen tells opened new) are front back g w (subst (λ (q : Core). IsExact q g.book.policy g.book.history ((tells mid).logs k).state) (sym c) is_exact)
      (subst (λ (q : Core). Gained (IsInRecovery (history_of q g.book.policy) ((tells opened).logs k).state) ((tells opened).logs k) ((tells mid).logs k)) (sym c) (recovers (subst IsTrue (sym told_same) are))))))

  -- what was in hand meanwhile
  pub hold : {S : Type 0} (tells : S → StoreState) (mid new : S) (v : Lives (tells mid) (tells new)) → HoldFrom tells core gs calls mid new
  unfolding run_from
  hold {S} tells mid new v = λ are opened told_same.
      let s = core.dims in
      all_map (λ k (g : GroupRun). IsExact core g.policy g.first ((tells mid).logs k).state → RecoversIn k core g.policy (seen tells opened mid) → HeldIn k core g.policy (IsInTurn core gs calls k) (seen tells opened new)) (run_from s calls) 0 e.books
      (each_book (λ k b. IsExact core b.book.policy b.book.history ((tells mid).logs k).state → RecoversIn k core b.book.policy (seen tells opened mid) → HeldIn k core b.book.policy (IsInTurn core gs calls k) (seen tells opened new)) e.books
      (λ front back g is.
      let c : g.book.core ≡ core = each_here (λ b. b.book.core ≡ core) g front back (subst (Over core) is x.over) in
      let w = subst (WereAsked asks (tells mid) (tells new)) is (were (tells mid) (tells new) v) in
      let k = length front in
      let rooms : rooms_of (front ++ g ∷ back) ≡ first_rooms core gs = ap rooms_of (sym is) ∙ sym (firsts core calls e.books x.over) in
      λ is_exact recovers.
      subst (λ (rs : List Room). HeldIn k core g.book.policy (λ h. (here : List Room) × IsInHand (manner s) rs calls here × RoomHas k here h) (seen tells opened new)) rooms
      (subst (λ (q : Core). HeldIn k q g.book.policy (λ h. (here : List Room) × IsInHand (manner s) (rooms_of (front ++ g ∷ back)) calls here × RoomHas k here h) (seen tells opened new)) c
      (held_meanwhile asks (tells mid) (seen tells opened new) are front back g w (subst (λ (q : Core). IsExact q g.book.policy g.book.history ((tells mid).logs k).state) (sym c) is_exact)
      (subst (λ (q : Core). Gained (IsInRecovery (history_of q g.book.policy) ((tells opened).logs k).state) ((tells opened).logs k) ((tells mid).logs k)) (sym c) (recovers (subst IsTrue (sym told_same) are)))))))

  -- how often the store was called: four times at most for each ask
  called_few : (tells : Bool) (before after : ℕ) → last.left + length last.outcomes ≡ e.left + length e.outcomes → (IsTrue tells → after ≤ before + most_calls last.outcomes * (e.left - last.left)) → IsTrue tells → after ≤ before + 4 * length last.outcomes
  called_few tells before after counted few told =
      let asks_are : e.left - last.left ≡ length last.outcomes = (let none = ap (λ (os : List Outcome). length os) x.unasked in omega (arith, counted, none)) in
      four_at_most (has_fault last.outcomes) (length last.outcomes) before after (subst (λ (n : ℕ). after ≤ before + most_calls last.outcomes * n) asks_are (few told))

  pub serves : {S : Type 0} (tells : S → StoreState) (mid new : S) (end_is : Result (Unit {0}) ServeFault) (is_told : Bool) (log : List LogEntry) (v : Lives (tells mid) (tells new))
      → Ends end_is is_told (desk_at e) (desk_at last) log → (IsTrue is_told → Serves (desk_at e) (desk_at last) max_input log calls) → ServeWire tells core e last end_is is_told log mid new
  unfolding wired
  serves tells mid new end_is is_told log v ends log_is = record {
    asking = a;
    runs = runs core calls e.books;
    stated = refl;
    left = refl;
    outcomes = refl;
    wired = wired end_is is_told log ends v.counted log_is;
    survived = survive tells mid new v;
    held = hold tells mid new v;
    few = called_few (tells mid).told (tells mid).calls (tells new).calls v.counted v.few;
  }

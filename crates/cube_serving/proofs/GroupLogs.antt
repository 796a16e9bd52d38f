-- What a crash leaves of the log of each group, while groups are asked on one wire.
use Rattle.std.proofs.Common.{◌≡◌, ◌∙◌, ◌+◌, refl, sym, ap, subst, ℕ, suc, List, [], ◌∷◌, ◌++◌, length, map, inl, inr, IsTrue, append_assoc, length-append, arith}
use Rattle.cube_model.specs.declared.entry.Entry.{Entry}
use Rattle.cube_model.specs.declared.outcome.Outcome.TheVariants.{Given}
use Rattle.cube_model.specs.declared.policy.Policy.{Policy}
use Rattle.cube_model.specs.Cores.{Core, shown}
use Rattle.cube_model.specs.Dims.{Dims}
use Rattle.cube_model.specs.Rooms.{Room, turns_to, ended}
use Rattle.cube_model.specs.Runs.{end}
use Rattle.cube_model.specs.TwoWorlds.{Extends}
use Rattle.cube_io.specs.Desks.{Manner, GivesRooms}
use Rattle.cube_io.specs.Seen.{StoreState, Seen}
use Rattle.cube_io.specs.States.{State, Gained, settled}
use Rattle.cube_io.proofs.Trails.{gained_then, gained_map}
use Rattle.cube_journal.specs.Keeping.{IsInRecovery}
use Rattle.cube_engine.specs.Kept.{history_of, GivesHistory, IsExact, IsWithin}
use Rattle.cube_engine.specs.Steps.{by_words, manner}
use Rattle.cube_server.specs.Crashes.{after, OnTheWay, IsInHand, Endures}
use Rattle.cube_server.specs.Logs.{Call as Reached}
use Rattle.cube_server.specs.Seen.{DeskState, Moment}
use Rattle.cube_starting.specs.Grouping.{AllOf}
use Rattle.cube_starting.specs.NamedBooks.{room, rooms_of, AreNumbered, place, places_of, HoldsAt}
use Rattle.cube_serving.specs.Serving.{turn_of, RoomHas}
use Rattle.cube_starting.specs.Starting.{IsBetween, SurvivedIn, HeldIn}
use Rattle.cube_starting.specs.declared.named.NamedBook.{NamedBook}
use Rattle.cube_serving.proofs.Grouped.{after_is, turns_grow}
use Rattle.cube_engine.proofs.Settled.{settled_leaves}
use Rattle.cube_starting.proofs.Held.{held}
use Rattle.cube_starting.proofs.Lists.{at_seam, map_append, map_twice}
use Rattle.cube_starting.proofs.Placed.{front_logs, back_logs, own_holds, only_holds}

-- ---- a book with another history

-- the book behind some asks
moved : Dims → List Reached → NamedBook → NamedBook
moved s calls b = record {
  name = b.name;
  book = record {
    core = b.book.core;
    policy = b.book.policy;
    history = (ended (by_words s) (map turn_of calls) (room b)).history;
    waiting = b.book.waiting;
    journal = b.book.journal;
  };
}

module _ (s : Dims) (calls : List Reached) where
  -- its rooms are those that the asks lead to, and its places stay
  moved_rooms : (bs : List NamedBook) → rooms_of (map (moved s calls) bs) ≡ after (manner s) (rooms_of bs) calls
  unfolding moved
  moved_rooms bs = map_twice (moved s calls) room (λ b. ended (by_words s) (map turn_of calls) (room b)) bs (λ b. refl) ∙ sym (map_twice room (ended (by_words s) (map turn_of calls)) (λ b. ended (by_words s) (map turn_of calls) (room b)) bs (λ b. refl)) ∙ sym (after_is s (rooms_of bs) calls)

  moved_places : (bs : List NamedBook) → places_of (map (moved s calls) bs) ≡ places_of bs
  unfolding moved
  moved_places bs = map_twice (moved s calls) place place bs (λ b. refl)

  moved_logs : (n : ℕ) (bs : List NamedBook) → AreNumbered n bs → AreNumbered n (map (moved s calls) bs)
  unfolding moved
  moved_logs n [] a = tt
  moved_logs n (b ∷ bs) a = (a.0, moved_logs (suc n) bs a.1)

-- ---- each book in its turn

-- the book with so many before it stands in the log of that number
log_at : (n : ℕ) (front back : List NamedBook) (g : NamedBook) → AreNumbered n (front ++ g ∷ back) → g.book.journal.log ≡ n + length front
log_at n [] back g a = let e = a.0 in omega (arith, e)
log_at n (x ∷ front) back g a = let e = log_at (suc n) front back g a.1 in omega (arith, e)

-- what holds of each book with those before it and behind it
pub each_book : (P : ℕ → NamedBook → Type 0) (bs : List NamedBook) → ((front back : List NamedBook) (g : NamedBook) → bs ≡ front ++ g ∷ back → P (length front) g) → AllOf P 0 bs
each_book P bs h = go [] bs refl
  where
    go : (front rest : List NamedBook) → bs ≡ front ++ rest → AllOf P (length front) rest
    go front [] e = tt
    go front (g ∷ rest) e = (
      h front rest g e,
      subst (λ (k : ℕ). AllOf P k rest) (length-append front (g ∷ []) ∙ more (length front)) (go (front ++ g ∷ []) rest (e ∙ sym (append_assoc front (g ∷ []) rest))),
    )
      where
        more : (n : ℕ) → n + 1 ≡ suc n
        more n = omega arith

-- of the rooms behind some asks it holds at the log of a book as of that book behind them
own_only : (P : Core → Policy → List Entry → State → Type 0) (s : Dims) (calls : List Reached) (front back : List NamedBook) (g : NamedBook) (st : State) → AreNumbered 0 (front ++ g ∷ back)
    → HoldsAt P (places_of (front ++ g ∷ back)) (after (manner s) (rooms_of (front ++ g ∷ back)) calls) (length front) st → P g.book.core g.book.policy (ended (by_words s) (map turn_of calls) (room g)).history st
unfolding moved
own_only P s calls front back g st numbered holds =
    let f = moved s calls in
    let bs = front ++ g ∷ back in
    let split : map f bs ≡ map f front ++ f g ∷ map f back = map_append f front (g ∷ back) in
    let moved_numbered : AreNumbered 0 (map f front ++ f g ∷ map f back) = subst (AreNumbered 0) split (moved_logs s calls 0 bs numbered) in
    let there = log_at 0 front back g numbered in
    let log : g.book.journal.log ≡ length front = omega (arith, there) in
    let at : HoldsAt P (places_of (map f front ++ f g ∷ map f back)) (rooms_of (map f front ++ f g ∷ map f back)) g.book.journal.log st =
    subst (λ (xs : List NamedBook). HoldsAt P (places_of xs) (rooms_of xs) g.book.journal.log st) split
    (subst (λ (k : ℕ). HoldsAt P (places_of (map f bs)) (rooms_of (map f bs)) k st) (sym log)
    (subst (λ ps. HoldsAt P ps (rooms_of (map f bs)) (length front) st) (sym (moved_places s calls bs))
    (subst (λ rs. HoldsAt P (places_of bs) rs (length front) st) (sym (moved_rooms s calls bs)) holds))) in
    only_holds P (f g) (map f front) (map f back) st (front_logs 0 (map f front) (map f back) (f g) moved_numbered) (back_logs 0 (map f front) (map f back) (f g) moved_numbered) at

-- it holds at the log of a book where it holds of that book
own_at : (P : Core → Policy → List Entry → State → Type 0) (front back : List NamedBook) (g : NamedBook) (st : State) → AreNumbered 0 (front ++ g ∷ back) → P g.book.core g.book.policy g.book.history st
    → HoldsAt P (places_of (front ++ g ∷ back)) (rooms_of (front ++ g ∷ back)) (length front) st
own_at P front back g st numbered p =
    let there = log_at 0 front back g numbered in
    let log : g.book.journal.log ≡ length front = omega (arith, there) in
    subst (λ (k : ℕ). HoldsAt P (places_of (front ++ g ∷ back)) (rooms_of (front ++ g ∷ back)) k st) log (own_holds P g front back st p)

-- ---- what asks leave of them

-- the history of a book behind some asks
abbrev pub behind : Dims → List Reached → NamedBook → List Entry
behind s calls b = (ended (by_words s) (map turn_of calls) (room b)).history

-- Asks of books over a wire: the dimensions, the asks, for how many there was space, and the desk behind them with what it says of logs.
pub record Asks : Type 1 where
  pub dims : Dims
  pub calls : List Reached
  pub stated : ℕ
  pub last : DeskState
  pub exact : List Room → ℕ → State → Type 0
  pub within : List Room → ℕ → State → Type 0

-- the books before they were asked anything, and the desk behind the asks
abbrev pub books_at : Asks → List NamedBook → StoreState → Moment
books_at x bs store = record {
  desk = record { manner = manner x.dims; rooms = rooms_of bs; capacity = x.stated; outcomes = [] };
  exact = HoldsAt IsExact (places_of bs);
  within = HoldsAt IsWithin (places_of bs);
  store = store;
}

abbrev pub desk_behind_at : Asks → StoreState → Moment
desk_behind_at x store = record { desk = x.last; exact = x.exact; within = x.within; store = store }

-- The books were asked so: the asks led to the last rooms, and this is what they leave of a store.
pub record WereAsked (x : Asks) (store store' : StoreState) (bs : List NamedBook) : Type 0 where
  pub numbered : AreNumbered 0 bs
  pub leads : x.last.rooms ≡ after (manner x.dims) (rooms_of bs) x.calls
  pub endures : Endures (books_at x bs store) (desk_behind_at x store') x.calls

-- what is in hand is behind some asks, of which the last may be the one in hand
hand_calls : (m : Manner) (rooms : List Room) (calls : List Reached) (here : List Room) → IsInHand m rooms calls here → (cs : List Reached) × (here ≡ after m rooms cs)
hand_calls m rooms [] here e = ([], e)
hand_calls m rooms (c ∷ calls) here (inl e) = ([], e)
hand_calls m rooms (c ∷ calls) here (inr (inl e)) = (record { ask = c.ask; outcome = Given } ∷ [], e.1)
hand_calls m rooms (c ∷ calls) here (inr (inr i)) = let more = hand_calls m (m.next rooms c.ask c.outcome) calls here i in (c ∷ more.0, more.1)

hand_starts : (m : Manner) (rooms : List Room) (calls : List Reached) → IsInHand m rooms calls rooms
hand_starts m rooms [] = refl
hand_starts m rooms (c ∷ calls) = inl refl

-- the history of the room of the book with so many before it
history_there : (f : Room → Room) (front back : List NamedBook) (g : NamedBook) → RoomHas (length front) (map f (rooms_of (front ++ g ∷ back))) (f (room g)).history
history_there f [] back g = refl
history_there f (x ∷ front) back g = history_there f front back g

history_first : (front back : List NamedBook) (g : NamedBook) → RoomHas (length front) (rooms_of (front ++ g ∷ back)) g.book.history
history_first [] back g = refl
history_first (x ∷ front) back g = history_first front back g

module _ {S : Type 0} (x : Asks) (mid : StoreState) (store : Seen StoreState S) (are : IsTrue mid.told)
    (front back : List NamedBook) (g : NamedBook) (w : WereAsked x mid store.after (front ++ g ∷ back)) where
  abbrev s : Dims
  s = x.dims

  abbrev calls : List Reached
  calls = x.calls

  abbrev last : DeskState
  last = x.last

  abbrev bs : List NamedBook
  bs = front ++ g ∷ back

  abbrev k : ℕ
  k = length front

  on_the_way : (st : State) → OnTheWay (manner s) (HoldsAt IsWithin (places_of bs)) (rooms_of bs) last.rooms k st → (h : List Entry) × Extends g.book.history h × Extends h (behind s calls g) × IsWithin g.book.core g.book.policy h st
  on_the_way st y =
      let first = y.from.0 in
      let then = y.to.0 in
      let st_of = λ (cs : List Reached) (r : Room). ended (by_words s) (map turn_of cs) r in
      let public = shown g.book.core g.book.policy in
      let h = behind s first g in
      let here : y.here ≡ map (st_of first) (rooms_of bs) = y.from.1 ∙ after_is s (rooms_of bs) first in
      let both : map (st_of calls) (rooms_of bs) ≡ map (λ r. st_of then (st_of first r)) (rooms_of bs) =
      sym (w.leads ∙ after_is s (rooms_of bs) calls) ∙ y.to.1 ∙ after_is s y.here then ∙ ap (map (st_of then)) here ∙ map_twice (st_of first) (st_of then) (λ r. st_of then (st_of first r)) (rooms_of bs) (λ r. refl) in
      let both_books : map (λ b. st_of calls (room b)) bs ≡ map (λ b. st_of then (st_of first (room b))) bs =
      sym (map_twice room (st_of calls) (λ b. st_of calls (room b)) bs (λ b. refl)) ∙ both ∙ map_twice room (λ r. st_of then (st_of first r)) (λ b. st_of then (st_of first (room b))) bs (λ b. refl) in
      let same : behind s calls g ≡ end (by_words s) public h (turns_to g.name (map turn_of then)) = ap (λ (r : Room). r.history) (at_seam (λ b. st_of calls (room b)) (λ b. st_of then (st_of first (room b))) front back g both_books) in (
        h,
        turns_grow s public g.book.history (turns_to g.name (map turn_of first)),
        subst (Extends h) (sym same) (turns_grow s public h (turns_to g.name (map turn_of then))),
        own_only IsWithin s first front back g st w.numbered (subst (λ (rs : List Room). HoldsAt IsWithin (places_of bs) rs k st) y.from.1 y.there),
      )

  pub survived : IsExact g.book.core g.book.policy g.book.history (mid.logs k).state
      → Gained (IsInRecovery (history_of g.book.core g.book.policy) (store.before.logs k).state) (store.before.logs k) (mid.logs k)
      → SurvivedIn k g.book.core g.book.policy g.book.history (behind s calls g) last.outcomes store
  survived is_exact opened =
      let core = g.book.core in
      let policy = g.book.policy in
      let h = g.book.history in
      let old = store.before.logs k in
      let new = store.after.logs k in
      let v = w.endures in
      let around = own_at IsWithin front back g (mid.logs k).state w.numbered (λ b image. inl (is_exact b image)) in
      record {
        passed = gained_then (IsBetween core policy old.state h (behind s calls g)) old (mid.logs k) new
            (gained_map (IsInRecovery (history_of core policy) old.state) (IsBetween core policy old.state h (behind s calls g)) old (mid.logs k) (λ st y. inl y) opened)
            (gained_map (OnTheWay (manner s) (HoldsAt IsWithin (places_of bs)) (rooms_of bs) last.rooms k) (IsBetween core policy old.state h (behind s calls g)) (mid.logs k) new (λ st y. inr (on_the_way st y)) (v.passed are k around));
        ends = own_only IsWithin s calls front back g new.state w.numbered (subst (λ (rs : List Room). HoldsAt IsWithin (places_of bs) rs k new.state) w.leads ((v.within_stays last.rooms k new.state).0 (v.stays_within are k around)));
        exact = λ none. own_only IsExact s calls front back g new.state w.numbered (subst (λ (rs : List Room). HoldsAt IsExact (places_of bs) rs k new.state) w.leads ((v.exact_stays last.rooms k new.state).0 (v.stays_exact none are k (own_at IsExact front back g (mid.logs k).state w.numbered is_exact))));
      }

  -- the histories of the book that are in hand meanwhile
  abbrev these : List Entry → Type 0
  these h = (here : List Room) × IsInHand (manner s) (rooms_of bs) calls here × RoomHas k here h

  in_book : (r : List Room) (bytes : List ℕ) → IsInHand (manner s) (rooms_of bs) calls r → GivesRooms (HoldsAt IsExact (places_of bs)) k r bytes → (h : List Entry) × these h × GivesHistory g.book.core g.book.policy h bytes
  in_book r bytes i gives =
      let cs = hand_calls (manner s) (rooms_of bs) calls r i in
      let of_room = ended (by_words s) (map turn_of cs.0) in
      let exact = own_only IsExact s cs.0 front back g (settled bytes) w.numbered (subst (λ (rs : List Room). HoldsAt IsExact (places_of bs) rs k (settled bytes)) cs.1 gives) in (
        behind s cs.0 g,
        (r, i, subst (λ (rs : List Room). RoomHas k rs (behind s cs.0 g)) (sym (cs.1 ∙ after_is s (rooms_of bs) cs.0)) (history_there of_room front back g)),
        exact bytes (settled_leaves bytes),
      )

  pub held_meanwhile : IsExact g.book.core g.book.policy g.book.history (mid.logs k).state
      → Gained (IsInRecovery (history_of g.book.core g.book.policy) (store.before.logs k).state) (store.before.logs k) (mid.logs k) → HeldIn k g.book.core g.book.policy these store
  held_meanwhile is_exact opened =
      held k g.book.core g.book.policy g.book.history these (GivesRooms (HoldsAt IsExact (places_of bs)) k) (IsInHand (manner s) (rooms_of bs) calls) mid store
      (rooms_of bs, hand_starts (manner s) (rooms_of bs) calls, history_first front back g) in_book is_exact opened
      (w.endures.in_hand are k (own_at IsWithin front back g (mid.logs k).state w.numbered (λ b image. inl (is_exact b image))))

-- What a crash may leave while lines are answered one after another.
use Rattle.std.proofs.Common.{◌≡◌, inl, inr, ⊎_elim, ◌<◌, ◌≤◌, ℕ, Bool, IsTrue, true, false, List, [], ◌∷◌, ◌++◌, length, refl, sym, ap, ◌∙◌, subst, append_assoc, length-append, arith}
use Rattle.cube_model.specs.declared.outcome.Outcome.{Outcome}
use Rattle.cube_model.specs.declared.outcome.Outcome.TheVariants.{Given}
use Rattle.cube_model.specs.Rooms.{Room}
use Rattle.cube_io.specs.Desks.{Manner, GivesRooms, faults_in}
use Rattle.cube_io.specs.States.{State, settled}
use Rattle.cube_io.proofs.Leaving.{leaves_all_none, leaves_all_then, leaves_all_map}
use Rattle.cube_io.proofs.Trails.{gained_none, gained_then, gained_map}
use Rattle.cube_talk.specs.AskLaws.{by_test, asks_long, asks_one, asks_append, rooms_long, rooms_one, rooms_append, faults_append, too_long, none, none_adds, onward, onward_adds, alike, alike_adds}
use Rattle.cube_talk.specs.Asks.{is_too_long, ask_of, asks_in, rooms_behind, AnswersAsks}
use Rattle.cube_talk.specs.Crashes.{IsOnTheWay, IsWithNext, IsLineInHand, IsSame, IsPassed, Survives, AnswersDurably}
use Rattle.cube_talk.specs.Moments.{Moment}

-- ---- relations on the states of logs

same_refl : (p : List Room → ℕ → State → Type 0) → IsSame p p
same_refl p rooms log s = (λ h. h, λ h. h)

same_then : (p q r : List Room → ℕ → State → Type 0) → IsSame q p → IsSame r q → IsSame r p
same_then p q r f g rooms log s = (λ h. (f rooms log s).0 ((g rooms log s).0 h), λ h. (g rooms log s).1 ((f rooms log s).1 h))

-- ---- rooms on the way

none_before : (os ps : List Outcome) → faults_in (os ++ ps) ≡ 0 → faults_in os ≡ 0
none_before os ps h = let sum = faults_append os ps in omega (arith, h, sum)

none_behind : (os ps : List Outcome) → faults_in (os ++ ps) ≡ 0 → faults_in ps ≡ 0
none_behind os ps h = let sum = faults_append os ps in omega (arith, h, sum)

-- outcomes behind those that the lines take don't count
abbrev TakesFirst : Manner → List (List ℕ) → List Outcome → Type 0
TakesFirst m ls ps = (rooms : List Room) (os : List Outcome) → asks_in ls ≤ length os → rooms_behind m rooms ls (os ++ ps) ≡ rooms_behind m rooms ls os

takes_one : (m : Manner) (rooms : List Room) (line : List ℕ) (rest : List (List ℕ)) (os ps : List Outcome) → is_too_long line ≡ false → asks_in (line ∷ rest) ≤ length os → TakesFirst m rest ps
    → rooms_behind m rooms (line ∷ rest) (os ++ ps) ≡ rooms_behind m rooms (line ∷ rest) os
takes_one m rooms line rest [] ps f few more = absurd (let e = asks_one line rest f in omega (arith, few, e))
takes_one m rooms line rest (o ∷ os) ps f few more =
    rooms_one m rooms line rest o (os ++ ps) f
    ∙ more (m.next rooms (ask_of line) o) os (let e = asks_one line rest f in omega (arith, few, e))
    ∙ sym (rooms_one m rooms line rest o os f)

takes_first : (m : Manner) (ls : List (List ℕ)) (ps : List Outcome) → TakesFirst m ls ps
takes_first m [] ps rooms os few = refl
takes_first m (line ∷ rest) ps rooms os few = by_test (is_too_long line)
    (λ t. rooms_long m rooms line rest (os ++ ps) t ∙ takes_first m rest ps rooms os (let e = asks_long line rest t in omega (arith, few, e)) ∙ sym (rooms_long m rooms line rest os t))
    (λ f. takes_one m rooms line rest os ps f few (takes_first m rest ps))

way_first : (m : Manner) (rooms here : List Room) (first more : List (List ℕ)) (os ps : List Outcome) → length os ≡ asks_in first → IsOnTheWay m rooms first os here → IsOnTheWay m rooms (first ++ more) (os ++ ps) here
way_first m rooms here first more os ps e w =
    let few : asks_in w.first ≤ length os = let a = asks_append w.first w.more in let b = ap asks_in w.split in omega (arith, e, a, b) in
    record {
      first = w.first;
      more = w.more ++ more;
      split = ap (λ (l : List (List ℕ)). l ++ more) w.split ∙ append_assoc w.first w.more more;
      are = w.are ∙ sym (takes_first m w.first ps rooms os few);
    }

way_second : (m m' : Manner) (rooms rooms' here : List Room) (first more : List (List ℕ)) (os ps : List Outcome) → m' ≡ m → rooms' ≡ rooms_behind m rooms first os → length os ≡ asks_in first
    → IsOnTheWay m' rooms' more ps here → IsOnTheWay m rooms (first ++ more) (os ++ ps) here
way_second m m' rooms rooms' here first more os ps same there e w = record {
  first = first ++ w.first;
  more = w.more;
  split = ap (λ (l : List (List ℕ)). first ++ l) w.split ∙ sym (append_assoc first w.first w.more);
  are = w.are
      ∙ ap (λ (n : Manner). rooms_behind n rooms' w.first ps) same
      ∙ ap (λ (r : List Room). rooms_behind m r w.first ps) there
      ∙ sym (rooms_append m first w.first ps rooms os e);
}

-- ---- the ask in hand

next_first : (m : Manner) (rooms here : List Room) (first more : List (List ℕ)) (os ps : List Outcome) → length os ≡ asks_in first → IsWithNext m rooms first os here → IsWithNext m rooms (first ++ more) (os ++ ps) here
next_first m rooms here first more os ps e w =
    let few : asks_in w.first ≤ length os = let a = asks_append w.first (w.line ∷ w.more) in let b = ap asks_in w.split in omega (arith, e, a, b) in
    record {
      first = w.first;
      line = w.line;
      more = w.more ++ more;
      split = ap (λ (l : List (List ℕ)). l ++ more) w.split ∙ append_assoc w.first (w.line ∷ w.more) more;
      short = w.short;
      earlier = w.earlier;
      outcome = w.outcome;
      later = w.later ++ ps;
      outcomes_split = ap (λ (l : List Outcome). l ++ ps) w.outcomes_split ∙ append_assoc w.earlier (w.outcome ∷ w.later) ps;
      in_turn = w.in_turn;
      found = w.found;
      are = w.are ∙ ap (λ (r : List Room). m.next r (ask_of w.line) Given) (sym (takes_first m w.first ps rooms os few));
    }

next_second : (m m' : Manner) (rooms rooms' here : List Room) (first more : List (List ℕ)) (os ps : List Outcome) → m' ≡ m → rooms' ≡ rooms_behind m rooms first os → length os ≡ asks_in first
    → IsWithNext m' rooms' more ps here → IsWithNext m rooms (first ++ more) (os ++ ps) here
next_second m m' rooms rooms' here first more os ps same there e w = record {
  first = first ++ w.first;
  line = w.line;
  more = w.more;
  split = ap (λ (l : List (List ℕ)). first ++ l) w.split ∙ sym (append_assoc first w.first (w.line ∷ w.more));
  short = w.short;
  earlier = os ++ w.earlier;
  outcome = w.outcome;
  later = w.later;
  outcomes_split = ap (λ (l : List Outcome). os ++ l) w.outcomes_split ∙ sym (append_assoc os w.earlier (w.outcome ∷ w.later));
  in_turn = (let both = length-append os w.earlier in let asks = asks_append first w.first in let turn = w.in_turn in omega (arith, e, both, asks, turn));
  found = w.found;
  are = w.are
      ∙ ap (λ (n : Manner). n.next (rooms_behind n rooms' w.first ps) (ask_of w.line) Given) same
      ∙ ap (λ (r : List Room). m.next (rooms_behind m r w.first ps) (ask_of w.line) Given) there
      ∙ ap (λ (r : List Room). m.next r (ask_of w.line) Given) (sym (rooms_append m first w.first ps rooms os e));
}

-- a line that is too long is no ask
next_alike : (m : Manner) (rooms here : List Room) (line : List ℕ) (os : List Outcome) → is_too_long line ≡ true → IsWithNext m rooms (line ∷ []) os here → ⊥
next_alike m rooms here line os l w = by_first w.first w.split
  where
    by_first : (first : List (List ℕ)) → line ∷ [] ≡ first ++ w.line ∷ w.more → ⊥
    by_first [] e = let same : line ≡ w.line = head_of e in let t : is_too_long w.line ≡ true = subst (λ (x : List ℕ). is_too_long x ≡ true) same l in let f = w.short in cc
      where
        head_of : line ∷ [] ≡ w.line ∷ w.more → line ≡ w.line
        head_of q = cc
    by_first (x ∷ first) e = longer first (tail_of e)
      where
        tail_of : line ∷ [] ≡ x ∷ (first ++ w.line ∷ w.more) → [] ≡ first ++ w.line ∷ w.more
        tail_of q = cc

        longer : (ys : List (List ℕ)) → [] ≡ ys ++ w.line ∷ w.more → ⊥
        longer [] q = cc
        longer (y ∷ ys) q = cc

hand_first : (m : Manner) (rooms here : List Room) (first more : List (List ℕ)) (os ps : List Outcome) → length os ≡ asks_in first → IsLineInHand m rooms first os here → IsLineInHand m rooms (first ++ more) (os ++ ps) here
hand_first m rooms here first more os ps e (inl w) = inl (way_first m rooms here first more os ps e w)
hand_first m rooms here first more os ps e (inr w) = inr (next_first m rooms here first more os ps e w)

hand_second : (m m' : Manner) (rooms rooms' here : List Room) (first more : List (List ℕ)) (os ps : List Outcome) → m' ≡ m → rooms' ≡ rooms_behind m rooms first os → length os ≡ asks_in first
    → IsLineInHand m' rooms' more ps here → IsLineInHand m rooms (first ++ more) (os ++ ps) here
hand_second m m' rooms rooms' here first more os ps same there e (inl w) = inl (way_second m m' rooms rooms' here first more os ps same there e w)
hand_second m m' rooms rooms' here first more os ps same there e (inr w) = inr (next_second m m' rooms rooms' here first more os ps same there e w)

-- a line that is too long is passed as another one
way_alike : (m : Manner) (rooms here : List Room) (line other : List ℕ) (os : List Outcome) → is_too_long line ≡ true → is_too_long other ≡ true → IsOnTheWay m rooms (line ∷ []) os here → IsOnTheWay m rooms (other ∷ []) os here
way_alike m rooms here line other os l o w = by_first w.first w.split w.are
  where
    nothing : (x : List ℕ) (first more : List (List ℕ)) → line ∷ [] ≡ x ∷ first ++ more → first ≡ []
    nothing x [] more e = refl
    nothing x (y ∷ first) more e = cc

    same : (x : List ℕ) (first more : List (List ℕ)) → line ∷ [] ≡ x ∷ first ++ more → x ≡ line
    same x first more e = cc

    by_first : (first : List (List ℕ)) → line ∷ [] ≡ first ++ w.more → here ≡ rooms_behind m rooms first os → IsOnTheWay m rooms (other ∷ []) os here
    by_first [] e is = record { first = []; more = other ∷ []; split = refl; are = is }
    by_first (x ∷ first) e is = record {
      first = other ∷ [];
      more = [];
      split = refl;
      are = is
          ∙ ap (λ (y : List ℕ). rooms_behind m rooms (y ∷ first) os) (same x first w.more e)
          ∙ ap (λ (ls : List (List ℕ)). rooms_behind m rooms (line ∷ ls) os) (nothing x first w.more e)
          ∙ rooms_long m rooms line [] os l
          ∙ sym (rooms_long m rooms other [] os o);
    }

-- ---- the laws

survives_none : (x : Moment) → Survives x x [] []
survives_none x = record {
  told_stays = refl;
  names_stay = λ t. refl;
  exact_stays = same_refl x.exact;
  within_stays = same_refl x.within;
  passed = λ t log w. gained_none (IsPassed x.manner x.rooms [] [] x.within log) (x.store.logs log) (x.store.logs log) refl;
  ends_within = λ t log w. w;
  ends_exact = λ t none log e. e;
  in_hand = λ t log w. leaves_all_none (GivesRooms x.exact log) (IsLineInHand x.manner x.rooms [] []) (x.store.logs log) (x.store.logs log) refl;
  others = λ t log no. refl;
  calls = λ t. omega arith;
}

survives_onward : (x y z : Moment) (first more : List (List ℕ)) {text : List ℕ} (ps : List Outcome) (a : AnswersAsks x y first text) → Survives x y first a.added → Survives y z more ps → Survives x z (first ++ more) (a.added ++ ps)
survives_onward x y z first more ps a h k =
    let tells : IsTrue x.store.told → IsTrue y.store.told = λ t. subst (λ (b : Bool). IsTrue b) (sym h.told_stays) t in
    let all = λ (log : ℕ). IsPassed x.manner x.rooms (first ++ more) (a.added ++ ps) x.within log in
    record {
      told_stays = k.told_stays ∙ h.told_stays;
      names_stay = λ t. k.names_stay (tells t) ∙ h.names_stay t;
      exact_stays = same_then x.exact y.exact z.exact h.exact_stays k.exact_stays;
      within_stays = same_then x.within y.within z.within h.within_stays k.within_stays;
      passed = λ t log w. gained_then (all log) (x.store.logs log) (y.store.logs log) (z.store.logs log)
          (gained_map (IsPassed x.manner x.rooms first a.added x.within log) (all log) (x.store.logs log) (y.store.logs log)
          (λ s p. (p.0, way_first x.manner x.rooms p.0 first more a.added ps a.matched p.1, p.2)) (h.passed t log w))
          (gained_map (IsPassed y.manner y.rooms more ps y.within log) (all log) (y.store.logs log) (z.store.logs log)
          (λ s p. (p.0, way_second x.manner y.manner x.rooms y.rooms p.0 first more a.added ps a.manner a.rooms_are a.matched p.1, (h.within_stays p.0 log s).0 p.2)) (k.passed (tells t) log (h.ends_within t log w)));
      ends_within = λ t log w. k.ends_within (tells t) log (h.ends_within t log w);
      ends_exact = λ t none log e. k.ends_exact (tells t) (none_behind a.added ps none) log (h.ends_exact t (none_before a.added ps none) log e);
      in_hand = λ t log w.
          let both = IsLineInHand x.manner x.rooms (first ++ more) (a.added ++ ps) in
          leaves_all_then (GivesRooms x.exact log) both (x.store.logs log) (y.store.logs log) (z.store.logs log)
          (leaves_all_map (GivesRooms x.exact log) (GivesRooms x.exact log) (IsLineInHand x.manner x.rooms first a.added) both (x.store.logs log) (y.store.logs log)
          (λ r bytes i g. (r, hand_first x.manner x.rooms r first more a.added ps a.matched i, g)) (h.in_hand t log w))
          (leaves_all_map (GivesRooms y.exact log) (GivesRooms x.exact log) (IsLineInHand y.manner y.rooms more ps) both (y.store.logs log) (z.store.logs log)
          (λ r bytes i g. (r, hand_second x.manner y.manner x.rooms y.rooms r first more a.added ps a.manner a.rooms_are a.matched i, (h.exact_stays r log (settled bytes)).0 g))
          (k.in_hand (tells t) log (h.ends_within t log w)));
      others = λ t log no. k.others (tells t) log (λ r s p. no r s ((h.within_stays r log s).0 p)) ∙ h.others t log no;
      calls = λ t. let first = h.calls t in let then = k.calls (tells t) in let long = length-append a.added ps in omega (arith, first, then, long);
    }

survives_alike : (x y : Moment) (line other : List ℕ) (os : List Outcome) → 65536 < length line → 65536 < length other → Survives x y (line ∷ []) os → Survives x y (other ∷ []) os
survives_alike x y line other os h k v = record {
  told_stays = v.told_stays;
  names_stay = v.names_stay;
  exact_stays = v.exact_stays;
  within_stays = v.within_stays;
  passed = λ t log w. gained_map (IsPassed x.manner x.rooms (line ∷ []) os x.within log) (IsPassed x.manner x.rooms (other ∷ []) os x.within log) (x.store.logs log) (y.store.logs log)
      (λ s p. (p.0, way_alike x.manner x.rooms p.0 line other os (too_long line h) (too_long other k) p.1, p.2)) (v.passed t log w);
  ends_within = v.ends_within;
  ends_exact = v.ends_exact;
  in_hand = λ t log w. leaves_all_map (GivesRooms x.exact log) (GivesRooms x.exact log) (IsLineInHand x.manner x.rooms (line ∷ []) os) (IsLineInHand x.manner x.rooms (other ∷ []) os) (x.store.logs log) (y.store.logs log)
      (λ r bytes i g. (r, inl (⊎_elim (λ p. way_alike x.manner x.rooms r line other os (too_long line h) (too_long other k) p) (λ n. absurd (next_alike x.manner x.rooms r line os (too_long line h) n)) i), g)) (v.in_hand t log w);
  others = v.others;
  calls = v.calls;
}

pub serves_none : (x : Moment) → AnswersDurably x x [] []
serves_none x = (none x, subst (λ (added : List Outcome). Survives x x [] added) (sym (none_adds x)) (survives_none x))

pub serves_onward : (x y z : Moment) (first more : List (List ℕ)) (text behind : List ℕ) → AnswersDurably x y first text → AnswersDurably y z more behind → AnswersDurably x z (first ++ more) (text ++ behind)
serves_onward x y z first more text behind h k = (
  onward x y z first more text behind h.0 k.0,
  subst (λ (added : List Outcome). Survives x z (first ++ more) added) (sym (onward_adds x y z first more text behind h.0 k.0)) (survives_onward x y z first more (k.0).added h.0 h.1 k.1),
)

pub serves_alike : (x y : Moment) (line other text : List ℕ) → 65536 < length line → 65536 < length other → AnswersDurably x y (line ∷ []) text → AnswersDurably x y (other ∷ []) text
serves_alike x y line other text h k v = (
  alike x y line other text h k v.0,
  subst (λ (added : List Outcome). Survives x y (other ∷ []) added) (sym (alike_adds x y line other text h k v.0)) (survives_alike x y line other (v.0).added h k v.1),
)

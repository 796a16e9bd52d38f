-- A search, a visit further.
use Rattle.std.proofs.Common.{◌≡◌, ℕ, zero, suc, ◌+◌, ◌*◌, ◌<◌, ◌≤◌, ◌⊎◌, inl, inr, Bool, true, false, cond, not, List, [], ◌∷◌, ◌++◌, length, replicate, set, get_or, refl, sym, ap, ap₂, ◌∙◌, subst, arith, ⊎_elim, get_or-set_other, length-append}
use Rattle.std.proofs.lemmas.Bool.{false≢true}
use Rattle.std.proofs.lemmas.List.{append_assoc, append-nil}
use Rattle.std.proofs.Math.ListN.{length-set}
use Rattle.cube_model.specs.Cubes.{IsIn}
use Rattle.cube_model.proofs.Members.{same_or_above}
use Rattle.cube_reason.specs.Searched.{state_of, first_visit, visit_at, is_seen, visited, marked, tally, AreWithin, IsReached, ComesFrom, IsSearch, IsPassed, Extends, WentOn, HasSearched}
use Rattle.cube_reason.specs.declared.joints.Joint.{Joint}
use Rattle.cube_reason.specs.declared.searching.Visit.{Visit}

-- ---- marks

pub tally_below : (seen : List Bool) → tally seen ≤ length seen
tally_below [] = omega arith
tally_below (true ∷ seen) = let m = tally_below seen in omega (arith, m)
tally_below (false ∷ seen) = let m = tally_below seen in omega (arith, m)

tally_set : (seen : List Bool) (i : ℕ) → i < length seen → get_or seen i false ≡ false → tally (set seen i true) ≡ suc (tally seen)
tally_set [] i l e = absurd (omega (arith, l))
tally_set (true ∷ seen) zero l e = absurd (false≢true (sym e))
tally_set (false ∷ seen) zero l e = refl
tally_set (true ∷ seen) (suc i) l e = ap suc (tally_set seen i (omega (arith, l)) e)
tally_set (false ∷ seen) (suc i) l e = tally_set seen i (omega (arith, l)) e

tally_none : (n : ℕ) → tally (replicate n false) ≡ 0
tally_none zero = refl
tally_none (suc n) = tally_none n

none_set : (n i : ℕ) → get_or (replicate n false) i false ≡ false
none_set zero i = refl
none_set (suc n) zero = refl
none_set (suc n) (suc i) = none_set n i

length_none : (n : ℕ) → length (replicate n false) ≡ n
length_none zero = refl
length_none (suc n) = ap suc (length_none n)

one_state : (p q : ℕ) (a b : Bool) → state_of p a ≡ state_of q b → (p ≡ q) × (a ≡ b)
one_state p q true true e = (omega (arith, e), refl)
one_state p q false false e = (omega (arith, e), refl)
one_state p q true false e = absurd (omega (arith, e))
one_state p q false true e = absurd (omega (arith, e))

equal_or : (a b : ℕ) → (a ≡ b) ⊎ (a ≡ b → ⊥)
equal_or zero zero = inl refl
equal_or zero (suc b) = inr (λ e. absurd (omega (arith, e)))
equal_or (suc a) zero = inr (λ e. absurd (omega (arith, e)))
equal_or (suc a) (suc b) = ⊎_elim (λ e. inl (ap suc e)) (λ d. inr (λ e. d (omega (arith, e)))) (equal_or a b)

-- ---- visits behind others

at_old : (old more : List Visit) (k : ℕ) → k < length old → visit_at (old ++ more) k ≡ visit_at old k
at_old [] more k l = absurd (omega (arith, l))
at_old (v ∷ old) more zero l = refl
at_old (v ∷ old) more (suc k) l = at_old old more k (omega (arith, l))

at_new : (old : List Visit) (v : Visit) → visit_at (old ++ v ∷ []) (length old) ≡ v
at_new [] v = refl
at_new (u ∷ old) v = at_new old v

pub extended_at : (old new : List Visit) → Extends old new → (k : ℕ) → k < length old → visit_at new k ≡ visit_at old k
extended_at old new x k l = ap (λ vs. visit_at vs k) x.is ∙ at_old old x.more k l

pub extended_long : (old new : List Visit) → Extends old new → length old ≤ length new
extended_long old new x = let a = ap length x.is in let b = length-append old x.more in omega (arith, a, b)

pub reached_on : (old new : List Visit) (p : ℕ) (b : Bool) → Extends old new → IsReached old p b → IsReached new p b
reached_on old new p b x r =
    let at = extended_at old new x r.number r.below in
    let long = extended_long old new x in
    let below = r.below in
    record {
      number = r.number;
      below = omega (arith, long, below);
      place_is = ap (λ (v : Visit). v.place) at ∙ r.place_is;
      odd_is = ap (λ (v : Visit). v.odd) at ∙ r.odd_is;
    }

comes_on : (joints : List (List Joint)) (old new : List Visit) (k : ℕ) → Extends old new → k < length old → ComesFrom joints old k → ComesFrom joints new k
comes_on joints old new k x l c =
    let at = extended_at old new x k l in
    let before = c.before in
    let back = extended_at old new x (visit_at old k).back (omega (arith, l, before)) in
    let there : visit_at new (visit_at new k).back ≡ visit_at old (visit_at old k).back = ap (λ (v : Visit). visit_at new v.back) at ∙ back in
    record {
      before = subst (λ (v : Visit). v.back < k) (sym at) c.before;
      joint = subst (λ (v : Visit). IsIn (record { to = v.place; by = v.by }) (get_or joints (visit_at new (visit_at new k).back).place [])) (sym at) (subst (λ (u : Visit). IsIn (record { to = (visit_at old k).place; by = (visit_at old k).by }) (get_or joints u.place [])) (sym there) c.joint);
      odd = ap (λ (v : Visit). v.odd) at ∙ c.odd ∙ ap (λ (u : Visit). not u.odd) (sym there);
    }

pub extends_none : (vs : List Visit) → Extends vs vs
extends_none vs = record { more = []; is = sym (append-nil vs) }

pub extends_on : (a b c : List Visit) → Extends a b → Extends b c → Extends a c
extends_on a b c x y = record { more = x.more ++ y.more; is = y.is ∙ ap (λ vs. vs ++ y.more) x.is ∙ append_assoc a x.more y.more }

-- ---- one visit

-- where a visit can be made from
pub record CanVisit (joints : List (List Joint)) (visits : List Visit) (v : Visit) : Type 0 where
  pub there : v.place < length joints
  pub before : v.back < length visits
  pub joint : IsIn (record { to = v.place; by = v.by }) (get_or joints (visit_at visits v.back).place [])
  pub odd : v.odd ≡ not (visit_at visits v.back).odd

pub record Visited (joints : List (List Joint)) (old new : List Visit) (seen : List Bool) (v : Visit) : Type 0 where
  pub search : IsSearch joints new seen
  pub extends : Extends old new
  pub reached : IsReached new v.place v.odd

pub state_below : (n p : ℕ) (b : Bool) → p < n → state_of p b < 2 * n
state_below n p true l = omega (arith, l)
state_below n p false l = omega (arith, l)

module _ (joints : List (List Joint)) (old : List Visit) (was : List Bool) (v : Visit) (s : IsSearch joints old was) where
  -- the state is marked by a visit at the end
  grown : v.place < length joints → is_seen was v.place v.odd ≡ false → ((k : ℕ) → k ≡ length old → 0 < k → ComesFrom joints (old ++ v ∷ []) k) → Visited joints old (old ++ v ∷ []) (set was (state_of v.place v.odd) true) v
  grown below fresh from =
      let size : length (old ++ v ∷ []) ≡ length old + 1 = length-append old (v ∷ []) in
      let state : state_of v.place v.odd < length was = let a = state_below (length joints) v.place v.odd below in let long = s.long in omega (arith, a, long) in
      let more : Extends old (old ++ v ∷ []) = record { more = v ∷ []; is = refl } in
      let new : IsReached (old ++ v ∷ []) v.place v.odd = record { number = length old; below = omega (arith, size); place_is = ap (λ (u : Visit). u.place) (at_new old v); odd_is = ap (λ (u : Visit). u.odd) (at_new old v) } in
      record {
        search = record {
          long = length-set was (state_of v.place v.odd) true ∙ s.long;
          there = λ k l. ⊎_elim
              (λ e. subst (λ n. (visit_at (old ++ v ∷ []) n).place < length joints) (sym e) (subst (λ (u : Visit). u.place < length joints) (sym (at_new old v)) below))
              (λ e. let lt : k < length old = omega (arith, e) in subst (λ (u : Visit). u.place < length joints) (sym (extended_at old (old ++ v ∷ []) more k lt)) (s.there k lt))
              (last_or k l size);
          trail = λ k some l. ⊎_elim
              (λ e. from k e some)
              (λ e. let lt : k < length old = omega (arith, e) in comes_on joints old (old ++ v ∷ []) k more lt (s.trail k some lt))
              (last_or k l size);
          seen_is = λ p b e. seen_now new more p b e;
          many = let t = tally_set was (state_of v.place v.odd) state fresh in let m = s.many in omega (arith, t, m, size);
        };
        extends = more;
        reached = new;
      }
    where
      last_or : (k : ℕ) → k < length (old ++ v ∷ []) → length (old ++ v ∷ []) ≡ length old + 1 → (k ≡ length old) ⊎ (suc k ≤ length old)
      last_or k l e = same_or_above (length old) k (omega (arith, l, e))

      seen_now : IsReached (old ++ v ∷ []) v.place v.odd → Extends old (old ++ v ∷ []) → (p : ℕ) (b : Bool) → is_seen (set was (state_of v.place v.odd) true) p b ≡ true → IsReached (old ++ v ∷ []) p b
      seen_now new more p b e = ⊎_elim
          (λ q. let o = one_state v.place p v.odd b q in subst (λ x. IsReached (old ++ v ∷ []) x b) o.0 (subst (λ x. IsReached (old ++ v ∷ []) v.place x) o.1 new))
          (λ q. reached_on old (old ++ v ∷ []) p b more (s.seen_is p b (sym (other (state_of p b) (state_of v.place v.odd) q) ∙ e)))
          (equal_or (state_of v.place v.odd) (state_of p b))
        where
          other : (i j : ℕ) → (j ≡ i → ⊥) → get_or (set was j true) i false ≡ get_or was i false
          other i j d = let ne : i ≡ j → ⊥ = λ e. d (sym e) in rw get_or-set_other refl

  pub visit_on : (new : List Visit) (seen : List Bool) → CanVisit joints old v → new ≡ visited old was v → seen ≡ marked was v → Visited joints old new seen v
  visit_on new seen can a b = go (is_seen was v.place v.odd) refl a b
    where
      from : (k : ℕ) → k ≡ length old → 0 < k → ComesFrom joints (old ++ v ∷ []) k
      from k e some =
          let at : visit_at (old ++ v ∷ []) k ≡ v = ap (visit_at (old ++ v ∷ [])) e ∙ at_new old v in
          let before = can.before in
          let back : visit_at (old ++ v ∷ []) (visit_at (old ++ v ∷ []) k).back ≡ visit_at old v.back = ap (λ (u : Visit). visit_at (old ++ v ∷ []) u.back) at ∙ at_old old (v ∷ []) v.back before in
          record {
            before = subst (λ (u : Visit). u.back < k) (sym at) (omega (arith, before, e));
            joint = subst (λ (u : Visit). IsIn (record { to = u.place; by = u.by }) (get_or joints (visit_at (old ++ v ∷ []) (visit_at (old ++ v ∷ []) k).back).place [])) (sym at) (subst (λ (u : Visit). IsIn (record { to = v.place; by = v.by }) (get_or joints u.place [])) (sym back) can.joint);
            odd = ap (λ (u : Visit). u.odd) at ∙ can.odd ∙ ap (λ (u : Visit). not u.odd) (sym back);
          }

      go : (t : Bool) → is_seen was v.place v.odd ≡ t → new ≡ cond t old (old ++ v ∷ []) → seen ≡ cond t was (set was (state_of v.place v.odd) true) → Visited joints old new seen v
      go true q x y = subst (λ vs. Visited joints old vs seen v) (sym x) (subst (λ bs. Visited joints old old bs v) (sym y) (record { search = s; extends = extends_none old; reached = s.seen_is v.place v.odd q }))
      go false q x y = subst (λ vs. Visited joints old vs seen v) (sym x) (subst (λ bs. Visited joints old (old ++ v ∷ []) bs v) (sym y) (grown can.there q from))

-- ---- the first visit

pub record Begun (joints : List (List Joint)) (start : ℕ) (visits : List Visit) (seen : List Bool) : Type 0 where
  pub search : IsSearch joints visits seen
  pub some : 0 < length visits
  pub first : visit_at visits 0 ≡ first_visit start

empty : (joints : List (List Joint)) → IsSearch joints [] (replicate (2 * length joints) false)
empty joints = record {
  long = length_none (2 * length joints);
  there = λ k l. absurd (omega (arith, l));
  trail = λ k some l. absurd (omega (arith, l));
  seen_is = λ p b e. absurd (false≢true (sym (none_set (2 * length joints) (state_of p b)) ∙ e));
  many = sym (tally_none (2 * length joints));
}

pub begun : (joints : List (List Joint)) (start : ℕ) (visits : List Visit) (was seen : List Bool) → start < length joints → was ≡ replicate (2 * length joints) false → visits ≡ visited [] was (first_visit start) → seen ≡ marked was (first_visit start) → Begun joints start visits seen
begun joints start visits was seen below none a b =
    let fresh : is_seen was start false ≡ false = ap (λ bs. is_seen bs start false) none ∙ none_set (2 * length joints) (state_of start false) in
    let x : visits ≡ first_visit start ∷ [] = a ∙ ap (λ (t : Bool). cond t [] (first_visit start ∷ [])) fresh in
    let y : seen ≡ set was (state_of start false) true = b ∙ ap (λ (t : Bool). cond t was (set was (state_of start false) true)) fresh in
    let s : IsSearch joints [] was = subst (IsSearch joints []) (sym none) (empty joints) in
    let g = grown joints [] was (first_visit start) s below fresh (λ k e some. absurd (omega (arith, e, some))) in
    subst (λ vs. Begun joints start vs seen) (sym x) (subst (λ bs. Begun joints start (first_visit start ∷ []) bs) (sym y) (record { search = g.search; some = omega arith; first = refl }))

-- ---- the joints of one place, one after another

pub record Going (joints : List (List Joint)) (at : ℕ) (many : ℕ) (old now : List Visit) (seen : List Bool) : Type 0 where
  pub search : IsSearch joints now seen
  pub extends : Extends old now
  pub passed : (i : ℕ) (d : Joint) → i < many → IsReached now (get_or (get_or joints (visit_at old at).place []) i d).to (not (visit_at old at).odd)

pub going_start : (joints : List (List Joint)) (at : ℕ) (old : List Visit) (seen : List Bool) → IsSearch joints old seen → Going joints at 0 old old seen
going_start joints at old seen s = record { search = s; extends = extends_none old; passed = λ i d l. absurd (omega (arith, l)) }

in_index : (x d : Joint) (xs : List Joint) → IsIn x xs → (i : ℕ) × (i < length xs) × (get_or xs i d ≡ x)
in_index x d [] k = absurd k
in_index x d (y ∷ ys) (inl e) = (0, omega arith, e)
in_index x d (y ∷ ys) (inr k) = let r = in_index x d ys k in let l = r.1 in (suc r.0, omega (arith, l), r.2)

index_in : (xs : List Joint) (i : ℕ) (d : Joint) → i < length xs → IsIn (get_or xs i d) xs
index_in [] i d l = absurd (omega (arith, l))
index_in (x ∷ xs) zero d l = inl refl
index_in (x ∷ xs) (suc i) d l = inr (index_in xs i d (omega (arith, l)))

same_index : (xs : List Joint) (i : ℕ) (d e : Joint) → i < length xs → get_or xs i d ≡ get_or xs i e
same_index [] i d e l = absurd (omega (arith, l))
same_index (x ∷ xs) zero d e l = refl
same_index (x ∷ xs) (suc i) d e l = same_index xs i d e (omega (arith, l))

-- the visit that a joint leads to
abbrev pub onward : Visit → ℕ → Joint → Visit
onward from at x = record { place = x.to; odd = not from.odd; back = at; by = x.by }

pub going_can : (joints : List (List Joint)) (at i : ℕ) (old now : List Visit) (seen : List Bool) (here : List Joint) (d : Joint) → AreWithin joints → at < length old → here ≡ get_or joints (visit_at old at).place [] → i < length here → Going joints at i old now seen → CanVisit joints now (onward (visit_at old at) at (get_or here i d))
going_can joints at i old now seen here d within l is lt g =
    let long = extended_long old now g.extends in
    let same = extended_at old now g.extends at l in
    let k : IsIn (get_or here i d) (get_or joints (visit_at old at).place []) = subst (IsIn (get_or here i d)) is (index_in here i d lt) in
    record {
      there = within (visit_at old at).place (get_or here i d) k;
      before = omega (arith, l, long);
      joint = subst (λ (u : Visit). IsIn (get_or here i d) (get_or joints u.place [])) (sym same) k;
      odd = ap (λ (u : Visit). not u.odd) (sym same);
    }

pub going_more : (joints : List (List Joint)) (at i : ℕ) (old now new : List Visit) (seen more : List Bool) (here : List Joint) (d : Joint) → AreWithin joints → at < length old → here ≡ get_or joints (visit_at old at).place [] → i < length here
    → new ≡ visited now seen (onward (visit_at old at) at (get_or here i d)) → more ≡ marked seen (onward (visit_at old at) at (get_or here i d)) → Going joints at i old now seen → Going joints at (i + 1) old new more
going_more joints at i old now new seen more here d within l is lt a b g =
    let v = onward (visit_at old at) at (get_or here i d) in
    let r = visit_on joints now seen v g.search new more (going_can joints at i old now seen here d within l is lt g) a b in
    record {
      search = r.search;
      extends = extends_on old now new g.extends r.extends;
      passed = λ j e lj. ⊎_elim
          (λ q. subst (λ n. IsReached new (get_or (get_or joints (visit_at old at).place []) n e).to (not (visit_at old at).odd)) (sym q) (subst (λ (x : Joint). IsReached new x.to (not (visit_at old at).odd)) (same_index here i d e lt ∙ ap (λ xs. get_or xs i e) is) r.reached))
          (λ q. reached_on now new (get_or (get_or joints (visit_at old at).place []) j e).to (not (visit_at old at).odd) r.extends (g.passed j e (omega (arith, q))))
          (same_or_above i j (omega (arith, lj)));
    }

pub going_end : (joints : List (List Joint)) (at i : ℕ) (old now : List Visit) (seen : List Bool) (here : List Joint) → at < length old → here ≡ get_or joints (visit_at old at).place [] → length here ≤ i → Going joints at i old now seen → WentOn joints at old now seen
going_end joints at i old now seen here l is le g =
    let same = extended_at old now g.extends at l in
    record {
      search = g.search;
      extends = g.extends;
      passed = λ x k. (
          let z : IsIn x here = subst (IsIn x) (ap (λ (u : Visit). get_or joints u.place []) same ∙ sym is) k in
          let n = in_index x x here z in
          let below = n.1 in
          let r = g.passed n.0 x (omega (arith, below, le)) in
          subst (λ (u : Visit). IsReached now x.to (not u.odd)) (sym same) (subst (λ (y : Joint). IsReached now y.to (not (visit_at old at).odd)) (ap (λ xs. get_or xs n.0 x) (sym is) ∙ n.2) r));
    }

-- ---- all visits, one after another

pub record Searching (joints : List (List Joint)) (start at : ℕ) (visits : List Visit) (seen : List Bool) : Type 0 where
  pub search : IsSearch joints visits seen
  pub some : 0 < length visits
  pub first : visit_at visits 0 ≡ first_visit start
  pub closed : (k : ℕ) → k < at → IsPassed joints visits k
  pub within : at ≤ length visits

pub searching_start : (joints : List (List Joint)) (start : ℕ) (visits : List Visit) (seen : List Bool) → Begun joints start visits seen → Searching joints start 0 visits seen
searching_start joints start visits seen b = record { search = b.search; some = b.some; first = b.first; closed = λ k l. absurd (omega (arith, l)); within = omega arith }

pub searching_more : (joints : List (List Joint)) (start at : ℕ) (old new : List Visit) (was seen : List Bool) → at < length old → Searching joints start at old was → WentOn joints at old new seen → Searching joints start (at + 1) new seen
searching_more joints start at old new was seen l s w =
    let long = extended_long old new w.extends in
    let some = s.some in
    record {
      search = w.search;
      some = omega (arith, long, some);
      first = extended_at old new w.extends 0 s.some ∙ s.first;
      closed = λ k lk. ⊎_elim
          (λ e. subst (IsPassed joints new) (sym e) w.passed)
          (λ e x z.
          let lt : k < length old = omega (arith, e, l) in
          let same = extended_at old new w.extends k lt in
          let r = s.closed k (omega (arith, e)) x (subst (λ (u : Visit). IsIn x (get_or joints u.place [])) same z) in
          subst (λ (u : Visit). IsReached new x.to (not u.odd)) (sym same) (reached_on old new x.to (not (visit_at old k).odd) w.extends r))
          (same_or_above at k (omega (arith, lk)));
      within = omega (arith, l, long);
    }

pub searching_few : (joints : List (List Joint)) (start at : ℕ) (visits : List Visit) (seen : List Bool) → Searching joints start at visits seen → length visits ≤ 2 * length joints
searching_few joints start at visits seen s = let a = tally_below seen in let b = s.search.many in let c = s.search.long in omega (arith, a, b, c)

pub searching_end : (joints : List (List Joint)) (start at : ℕ) (visits : List Visit) (seen : List Bool) → length visits ≤ at → Searching joints start at visits seen → HasSearched joints start visits
searching_end joints start at visits seen le s = record {
  some = s.some;
  first = s.first;
  there = s.search.there;
  trail = s.search.trail;
  closed = λ k l. s.closed k (omega (arith, l, le));
}

-- ---- a step of the code

pub here_is : (joints : List (List Joint)) (old : List Visit) (seen : List Bool) (at : ℕ) (v : Visit) (x here : List Joint) → IsSearch joints old seen → at < length old → v ≡ visit_at old at → x ≡ get_or joints v.place x → here ≡ x → here ≡ get_or joints (visit_at old at).place []
here_is joints old seen at v x here s l e is same =
    let lt : v.place < length joints = subst (λ (u : Visit). u.place < length joints) (sym e) (s.there at l) in
    same ∙ is ∙ same_list joints v.place x [] lt ∙ ap (λ (u : Visit). get_or joints u.place []) e
  where
    same_list : (xs : List (List Joint)) (i : ℕ) (d e : List Joint) → i < length xs → get_or xs i d ≡ get_or xs i e
    same_list [] i d e l = absurd (omega (arith, l))
    same_list (y ∷ ys) zero d e l = refl
    same_list (y ∷ ys) (suc i) d e l = same_list ys i d e (omega (arith, l))

pub going_below : (joints : List (List Joint)) (at i : ℕ) (old now : List Visit) (seen : List Bool) (here : List Joint) (d : Joint) (b : Bool) → AreWithin joints → here ≡ get_or joints (visit_at old at).place [] → i < length here → Going joints at i old now seen → state_of (get_or here i d).to b < length seen
going_below joints at i old now seen here d b within is lt g =
    let k : IsIn (get_or here i d) (get_or joints (visit_at old at).place []) = subst (IsIn (get_or here i d)) is (index_in here i d lt) in
    let below = within (visit_at old at).place (get_or here i d) k in
    let state = state_below (length joints) (get_or here i d).to b below in
    let long = g.search.long in
    omega (arith, state, long)

pub going_step : (joints : List (List Joint)) (at i : ℕ) (old now new : List Visit) (seen more : List Bool) (here : List Joint) (d : Joint) (v : Visit) → v ≡ visit_at old at → AreWithin joints → at < length old → here ≡ get_or joints (visit_at old at).place [] → i < length here
    → new ≡ visited now seen (onward v at (get_or here i d)) → more ≡ marked seen (onward v at (get_or here i d)) → Going joints at i old now seen → Going joints at (i + 1) old new more
going_step joints at i old now new seen more here d v e within l is lt a b g =
    going_more joints at i old now new seen more here d within l is lt (a ∙ ap (λ (u : Visit). visited now seen (onward u at (get_or here i d))) e) (b ∙ ap (λ (u : Visit). marked seen (onward u at (get_or here i d))) e) g

pub begun_by : (joints : List (List Joint)) (start : ℕ) (none visits : List Visit) (was seen : List Bool) (v : Visit) → start < length joints → was ≡ replicate (2 * length joints) false → none ≡ [] → v ≡ first_visit start → visits ≡ visited none was v → seen ≡ marked was v → Searching joints start 0 visits seen
begun_by joints start none visits was seen v below fresh empty_is first a b = searching_start joints start visits seen (begun joints start visits was seen below fresh
    (a ∙ ap₂ (λ vs u. visited vs was u) empty_is first) (b ∙ ap (marked was) first))

-- One book among others, found by its name.
use Rattle.std.proofs.Common.{◌≡◌, ◌≢◌, inl, inr, ℕ, zero, suc, ◌+◌, ◌<◌, ◌≤◌, Bool, true, false, not, cond, List, [], ◌∷◌, ◌++◌, length, get_or, take, drop, refl, sym, ap, subst, ◌∙◌, Some, None, arith}
use Rattle.std.specs.List.{position, position_or_len}
use Rattle.std.proofs.Common.{ltb}
use Rattle.std.proofs.lemmas.Bool.{false≢true, ltb-false}
use Rattle.std.proofs.lemmas.List.{take-append-drop, drop_more, length-take-le, get_or-take}
use Rattle.std.proofs.lemmas.List.Quantifiers.{position-Some}
use Rattle.cube_model.specs.declared.entry.Entry.{Entry}
use Rattle.cube_model.specs.declared.policy.Policy.{Policy}
use Rattle.cube_model.specs.Cores.{Core}
use Rattle.cube_model.specs.Cubes.{Each, same}
use Rattle.cube_model.specs.Rooms.{room_of, AreApart}
use Rattle.std.specs.Str.{bytes_eq}
use Rattle.cube_model.proofs.DimsFacts.{same-bytes_eq}
use Rattle.cube_model.proofs.Members.{tested, same_eq, same_refl}
use Rattle.cube_io.specs.States.{State, Log}
use Rattle.cube_engine.specs.Kept.{IsKept}
use Rattle.cube_starting.specs.NamedBooks.{room, rooms_of, dims_of, is_named, IsKeptIn, AreNumbered, place, places_of, HoldsAt}
use Rattle.cube_starting.specs.declared.named.NamedBook.{NamedBook}

-- ---- names

pub flip : (x y : List ℕ) → same x y ≡ same y x
flip x y = tested (same x y)
    (λ t. t ∙ sym (subst (λ z. same z x ≡ true) (same_eq x y t) (same_refl x)))
    (λ f. tested (same y x)
    (λ t. absurd (false≢true (sym f ∙ subst (λ z. same z y ≡ true) (same_eq y x t) (same_refl y))))
    (λ g. f ∙ sym g))

-- none has the name
none_before : (name : List ℕ) (gs : List NamedBook) → length gs ≤ position_or_len (is_named name) gs → Each (λ g. same g.name name ≡ false) gs
none_before name [] h = tt
none_before name (g ∷ gs) h = tested (bytes_eq g.name name)
    (λ t. let z : position_or_len (is_named name) (g ∷ gs) ≡ 0 = ap (λ b. cond (not b) (1 + position_or_len (is_named name) gs) 0) t in absurd (omega (arith, h, z)))
    (λ f. let z : position_or_len (is_named name) (g ∷ gs) ≡ 1 + position_or_len (is_named name) gs = ap (λ b. cond (not b) (1 + position_or_len (is_named name) gs) 0) f in (same-bytes_eq g.name name ∙ f, none_before name gs (omega (arith, h, z))))

pub none_named : (name : List ℕ) (gs : List NamedBook) → position (is_named name) gs ≡ None → Each (λ g. same g.name name ≡ false) gs
none_named name gs h = none_before name gs (by_test (ltb (position_or_len (is_named name) gs) (length gs)) refl h)
  where
    by_test : (b : Bool) → ltb (position_or_len (is_named name) gs) (length gs) ≡ b → cond b (Some (position_or_len (is_named name) gs)) None ≡ None → length gs ≤ position_or_len (is_named name) gs
    by_test true e k = absurd (cc)
    by_test false e k = ltb-false (position_or_len (is_named name) gs) (length gs) e

-- ---- a list with one book at a place

pub record Split (name : List ℕ) (gs : List NamedBook) (g : NamedBook) (k : ℕ) : Type 0 where
  pub front : List NamedBook
  pub back : List NamedBook
  pub whole : gs ≡ front ++ g ∷ back
  pub long : length front ≡ k
  pub before : Each (λ x. same x.name name ≡ false) front
  pub here : same g.name name ≡ true

each_from : (P : NamedBook → Type 0) (xs : List NamedBook) (d : NamedBook) → ((k : ℕ) → k < length xs → P (get_or xs k d)) → Each P xs
each_from P [] d h = tt
each_from P (x ∷ xs) d h = (h zero (omega arith), each_from P xs d (λ k l. h (suc k) (omega (arith, l))))

pub split : (name : List ℕ) (gs : List NamedBook) (g : NamedBook) (k : ℕ) → position (is_named name) gs ≡ Some k → g ≡ get_or gs k g → Split name gs g k
split name gs g k found at =
    let is = position-Some (is_named name) gs k g found in
    let long = length-take-le k gs (let l = is.0 in omega (arith, l)) in
    record {
      front = take k gs;
      back = drop (k + 1) gs;
      whole = sym (take-append-drop k gs) ∙ ap (λ xs. take k gs ++ xs) (drop_more gs k g is.0) ∙ ap (λ x. take k gs ++ x ∷ drop (k + 1) gs) (sym at);
      long = long;
      before = each_from (λ x. same x.name name ≡ false) (take k gs) g (λ j l. let m : j < k = omega (arith, l, long) in ap (λ x. same x.name name) (get_or-take k gs j g m) ∙ same-bytes_eq (get_or gs j g).name name ∙ is.2 j m);
      here = ap (λ x. same x.name name) at ∙ same-bytes_eq (get_or gs k g).name name ∙ is.1;
    }

-- the books behind it have other names
others : (name : List ℕ) (n : List ℕ) (xs : List NamedBook) → n ≡ name → room_of n (rooms_of xs) ≡ None → Each (λ x. same x.name name ≡ false) xs
others name n [] e h = tt
others name n (x ∷ xs) e h = tested (same x.name n)
    (λ t. absurd (let z : room_of n (rooms_of (x ∷ xs)) ≡ Some (room x) = ap (λ b. cond b (Some (room x)) (room_of n (rooms_of xs))) t in cc))
    (λ f. (ap (same x.name) (sym e) ∙ f, others name n xs e (sym (ap (λ b. cond b (Some (room x)) (room_of n (rooms_of xs))) f) ∙ h)))

pub after : (name : List ℕ) (front back : List NamedBook) (g : NamedBook) → same g.name name ≡ true → AreApart (rooms_of (front ++ g ∷ back)) → Each (λ x. same x.name name ≡ false) back
after name [] back g here a = others name g.name back (same_eq g.name name here) a.0
after name (x ∷ front) back g here a = after name front back g here a.1

-- ---- one book is replaced

module _ (g h : NamedBook) (back : List NamedBook) where
  pub same_places : place h ≡ place g → (front : List NamedBook) → places_of (front ++ h ∷ back) ≡ places_of (front ++ g ∷ back)
  same_places e [] = ap (λ p. p ∷ places_of back) e
  same_places e (x ∷ front) = ap (λ ps. place x ∷ ps) (same_places e front)

  pub same_length : (front : List NamedBook) → length (front ++ h ∷ back) ≡ length (front ++ g ∷ back)
  same_length [] = refl
  same_length (x ∷ front) = ap suc (same_length front)

  pub same_dims : h.book.core ≡ g.book.core → (front : List NamedBook) → dims_of (front ++ h ∷ back) ≡ dims_of (front ++ g ∷ back)
  same_dims e [] = ap (λ (c : Core). c.dims) e
  same_dims e (x ∷ front) = refl

  none_keeps : h.name ≡ g.name → (n : List ℕ) (front : List NamedBook) → room_of n (rooms_of (front ++ g ∷ back)) ≡ None → room_of n (rooms_of (front ++ h ∷ back)) ≡ None
  none_keeps e n [] k = go (same g.name n) refl k
    where
      go : (b : Bool) → same g.name n ≡ b → cond b (Some (room g)) (room_of n (rooms_of back)) ≡ None → room_of n (rooms_of (h ∷ back)) ≡ None
      go true t z = absurd (cc)
      go false f z = ap (λ b. cond b (Some (room h)) (room_of n (rooms_of back))) (ap (λ m. same m n) e ∙ f) ∙ z
  none_keeps e n (x ∷ front) k = go (same x.name n) k (none_keeps e n front)
    where
      go : (b : Bool) → cond b (Some (room x)) (room_of n (rooms_of (front ++ g ∷ back))) ≡ None → (room_of n (rooms_of (front ++ g ∷ back)) ≡ None → room_of n (rooms_of (front ++ h ∷ back)) ≡ None) → cond b (Some (room x)) (room_of n (rooms_of (front ++ h ∷ back))) ≡ None
      go true z again = absurd (cc)
      go false z again = again z

  pub apart_keeps : h.name ≡ g.name → (front : List NamedBook) → AreApart (rooms_of (front ++ g ∷ back)) → AreApart (rooms_of (front ++ h ∷ back))
  apart_keeps e [] a = (ap (λ n. room_of n (rooms_of back)) e ∙ a.0, a.1)
  apart_keeps e (x ∷ front) a = (none_keeps e x.name front a.0, apart_keeps e front a.1)

  pub numbered_keeps : h.book.journal.log ≡ g.book.journal.log → (n : ℕ) (front : List NamedBook) → AreNumbered n (front ++ g ∷ back) → AreNumbered n (front ++ h ∷ back)
  numbered_keeps e n [] a = (e ∙ a.0, a.1)
  numbered_keeps e n (x ∷ front) a = (a.0, numbered_keeps e (suc n) front a.1)

  pub each_keeps : (P : NamedBook → Type 0) → P h → (front : List NamedBook) → Each P (front ++ g ∷ back) → Each P (front ++ h ∷ back)
  each_keeps P p [] a = (p, a.1)
  each_keeps P p (x ∷ front) a = (a.0, each_keeps P p front a.1)

pub each_here : (P : NamedBook → Type 0) (g : NamedBook) (front back : List NamedBook) → Each P (front ++ g ∷ back) → P g
each_here P g [] back a = a.0
each_here P g (x ∷ front) back a = each_here P g front back a.1

pub each_maps : (P Q : NamedBook → Type 0) (xs : List NamedBook) → ((x : NamedBook) → P x → Q x) → Each P xs → Each Q xs
each_maps P Q [] f a = tt
each_maps P Q (x ∷ xs) f a = (f x a.0, each_maps P Q xs f a.1)

-- ---- logs

log_there : (n : ℕ) (front back : List NamedBook) (g : NamedBook) → AreNumbered n (front ++ g ∷ back) → g.book.journal.log ≡ n + length front
log_there n [] back g a = let e = a.0 in omega (arith, e)
log_there n (x ∷ front) back g a = let e = log_there (suc n) front back g a.1 in omega (arith, e)

later_logs : (own n : ℕ) (xs : List NamedBook) → own < n → AreNumbered n xs → Each (λ x. x.book.journal.log ≢ own) xs
later_logs own n [] l a = tt
later_logs own n (x ∷ xs) l a = ((λ e. absurd (let z = a.0 in omega (arith, z, e, l))), later_logs own (suc n) xs (omega (arith, l)) a.1)

pub front_logs : (n : ℕ) (front back : List NamedBook) (g : NamedBook) → AreNumbered n (front ++ g ∷ back) → Each (λ x. x.book.journal.log ≢ g.book.journal.log) front
front_logs n [] back g a = tt
front_logs n (x ∷ front) back g a =
    let there = log_there (suc n) front back g a.1 in
    ((λ e. absurd (let z = a.0 in omega (arith, z, e, there))), front_logs (suc n) front back g a.1)

pub back_logs : (n : ℕ) (front back : List NamedBook) (g : NamedBook) → AreNumbered n (front ++ g ∷ back) → Each (λ x. x.book.journal.log ≢ g.book.journal.log) back
back_logs n [] back g a = later_logs g.book.journal.log (suc n) back (let z = a.0 in omega (arith, z)) a.1
back_logs n (x ∷ front) back g a = back_logs (suc n) front back g a.1

module _ (own : ℕ) (logs logs' : ℕ → Log) (stay : (k : ℕ) → k ≢ own → logs' k ≡ logs k) where
  pub kept_elsewhere : (xs : List NamedBook) → Each (λ x. x.book.journal.log ≢ own) xs → Each (IsKeptIn logs) xs → Each (IsKeptIn logs') xs
  kept_elsewhere [] o a = tt
  kept_elsewhere (x ∷ xs) o a = (subst (λ (l : Log). IsKept x.book.core x.book.policy x.book.history x.book.journal l.state) (sym (stay x.book.journal.log o.0)) a.0, kept_elsewhere xs o.1 a.1)

  pub kept_keeps : (g h : NamedBook) (front back : List NamedBook) → Each (λ x. x.book.journal.log ≢ own) front → Each (λ x. x.book.journal.log ≢ own) back → IsKeptIn logs' h → Each (IsKeptIn logs) (front ++ g ∷ back) → Each (IsKeptIn logs') (front ++ h ∷ back)
  kept_keeps g h [] back o p k a = (k, kept_elsewhere back p a.1)
  kept_keeps g h (x ∷ front) back o p k a = (subst (λ (l : Log). IsKept x.book.core x.book.policy x.book.history x.book.journal l.state) (sym (stay x.book.journal.log o.0)) a.0, kept_keeps g h front back o.1 p k a.1)

-- ---- what holds of a log

module _ (P : Core → Policy → List Entry → State → Type 0) where
  pub own_holds : (g : NamedBook) (front back : List NamedBook) (s : State) → P g.book.core g.book.policy g.book.history s → HoldsAt P (places_of (front ++ g ∷ back)) (rooms_of (front ++ g ∷ back)) g.book.journal.log s
  own_holds g [] back s p = inl (refl, p)
  own_holds g (x ∷ front) back s p = inr (own_holds g front back s p)

  nowhere_holds : (own : ℕ) (xs : List NamedBook) (s : State) → Each (λ x. x.book.journal.log ≢ own) xs → HoldsAt P (places_of xs) (rooms_of xs) own s → ⊥
  nowhere_holds own [] s o h = h
  nowhere_holds own (x ∷ xs) s o (inl k) = o.0 (sym k.0)
  nowhere_holds own (x ∷ xs) s o (inr k) = nowhere_holds own xs s o.1 k

  pub only_holds : (g : NamedBook) (front back : List NamedBook) (s : State) → Each (λ x. x.book.journal.log ≢ g.book.journal.log) front → Each (λ x. x.book.journal.log ≢ g.book.journal.log) back
      → HoldsAt P (places_of (front ++ g ∷ back)) (rooms_of (front ++ g ∷ back)) g.book.journal.log s → P g.book.core g.book.policy g.book.history s
  only_holds g [] back s o p (inl k) = k.1
  only_holds g [] back s o p (inr k) = absurd (nowhere_holds g.book.journal.log back s p k)
  only_holds g (x ∷ front) back s o p (inl k) = absurd (o.0 (sym k.0))
  only_holds g (x ∷ front) back s o p (inr k) = only_holds g front back s o.1 p k

  -- of another log the same holds where one room is replaced
  pub other_holds : (g h : NamedBook) (front back : List NamedBook) (log : ℕ) (s : State) → log ≢ g.book.journal.log → h.book.journal.log ≡ g.book.journal.log
      → HoldsAt P (places_of (front ++ g ∷ back)) (rooms_of (front ++ g ∷ back)) log s → HoldsAt P (places_of (front ++ h ∷ back)) (rooms_of (front ++ h ∷ back)) log s
  other_holds g h [] back log s o e (inl k) = absurd (o k.0)
  other_holds g h [] back log s o e (inr k) = inr k
  other_holds g h (x ∷ front) back log s o e (inl k) = inl k
  other_holds g h (x ∷ front) back log s o e (inr k) = inr (other_holds g h front back log s o e k)

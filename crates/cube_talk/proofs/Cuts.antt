-- A text and its parts between line feeds.
use Rattle.std.proofs.Common.{◌≡◌, ◌<◌, ℕ, zero, suc, ◌+◌, ◌-◌, List, [], ◌∷◌, ◌++◌, length, take, drop, get_or, Bool, true, false, cond, Some, None, refl, sym, ap, ◌∙◌, All, arith, nat_lt, position, eqb-true, drop-cons, take-append-drop, length-drop, add-one}
use Rattle.std.specs.List.{onto_first, position_or_len}
use Rattle.std.proofs.lemmas.List.Sums.{fails_before_first}
use Rattle.std.proofs.lemmas.List.{take_all, length-take-le}
use borrow.Author.Tests.{ltb-true, ltb-false}
use Rattle.cube_talk.specs.Lines.{is_feed, front, last_part, parts}

-- ---- the first line feed

some_is : (b : Bool) (n at : ℕ) → cond b (Some n) None ≡ Some at → (b ≡ true) × (n ≡ at)
some_is true n at h = (refl, cc)
some_is false n at h = absurd (cc)

none_is : (b : Bool) (n : ℕ) → cond b (Some n) None ≡ None → b ≡ false
none_is true n h = absurd (cc)
none_is false n h = refl

at_first : (bytes : List ℕ) → position_or_len is_feed bytes < length bytes → get_or bytes (position_or_len is_feed bytes) 0 ≡ 10
at_first [] h = absurd (omega (arith, h))
at_first (b ∷ bs) h = by_test (is_feed b) refl (at_first bs)
  where
    by_test : (t : Bool) → is_feed b ≡ t → (position_or_len is_feed bs < length bs → get_or bs (position_or_len is_feed bs) 0 ≡ 10) → get_or (b ∷ bs) (position_or_len is_feed (b ∷ bs)) 0 ≡ 10
    by_test true e more = rw e (eqb-true b 10 e)
    by_test false e more =
        let k = rw e at h in
        let s : 1 + position_or_len is_feed bs ≡ suc (position_or_len is_feed bs) = omega arith in
        rw (e, s) (more (omega (arith, k)))

get_or-take : (xs : List ℕ) (n k d : ℕ) → k < n → get_or (take n xs) k d ≡ get_or xs k d
get_or-take xs zero k d h = absurd (omega (arith, h))
get_or-take [] (suc n) k d h = refl
get_or-take (x ∷ xs) (suc n) zero d h = refl
get_or-take (x ∷ xs) (suc n) (suc k) d h = get_or-take xs n k d (omega (arith, h))

-- a line, its line feed, and what stands behind
pub cut_at : (bytes : List ℕ) (at : ℕ) → position is_feed bytes ≡ Some at
    → (bytes ≡ take at bytes ++ 10 ∷ take (length bytes - (at + 1)) (drop (at + 1) bytes)) × All (λ b. is_feed b ≡ false) (take at bytes)
cut_at bytes at h =
    let e = some_is (nat_lt (position_or_len is_feed bytes) (length bytes)) (position_or_len is_feed bytes) at h in
    let below = ltb-true (position_or_len is_feed bytes) (length bytes) e.0 in
    let here : at < length bytes = omega (arith, below, e.1) in
    let first = drop-cons bytes at 0 here in
    let feed : get_or bytes at 0 ≡ 10 = rw e.1 at (at_first bytes below) in
    let all = take_all (length bytes - (at + 1)) (drop (at + 1) bytes) (omega (arith, length-drop (at + 1) bytes)) in
    let long = length-take-le at bytes (omega (arith, here)) in (
      sym (take-append-drop at bytes) ∙ ap (λ (l : List ℕ). take at bytes ++ l) (first ∙ rw (feed, all, add-one) refl),
      λ k d lt. ap is_feed (get_or-take bytes at k d (omega (arith, lt, long))) ∙ fails_before_first is_feed bytes k d (omega (arith, lt, long, e.1)),
    )

pub none_fed : (bytes : List ℕ) → position is_feed bytes ≡ None → All (λ b. is_feed b ≡ false) bytes
none_fed bytes h =
    let e = none_is (nat_lt (position_or_len is_feed bytes) (length bytes)) (position_or_len is_feed bytes) h in
    let all = ltb-false (position_or_len is_feed bytes) (length bytes) e in
    λ k d lt. fails_before_first is_feed bytes k d (omega (arith, all, lt))

-- ---- parts

front_and_last : (xs : List (List ℕ)) (y : List ℕ) → (front (xs ++ y ∷ []) ≡ xs) × (last_part (xs ++ y ∷ []) ≡ y)
front_and_last [] y = (refl, refl)
front_and_last (x ∷ []) y = (refl, refl)
front_and_last (x ∷ z ∷ zs) y = let e = front_and_last (z ∷ zs) y in (ap (λ (l : List (List ℕ)). x ∷ l) e.0, e.1)

-- the list has an element
abbrev pub IsSome : List (List ℕ) → Type 0
IsSome [] = ⊥
IsSome (x ∷ xs) = Unit {0}

pub some_parts : (text : List ℕ) → IsSome (parts text)
some_parts [] = tt
some_parts (b ∷ bs) = by_test (is_feed b) (parts bs) (some_parts bs)
  where
    by_test : (t : Bool) (ps : List (List ℕ)) → IsSome ps → IsSome (cond t ([] ∷ ps) (onto_first b ps))
    by_test true ps h = tt
    by_test false [] h = tt
    by_test false (p ∷ ps) h = tt

-- the front and the last of parts behind others
pub front_behind : (xs ys : List (List ℕ)) → IsSome ys → (front (xs ++ ys) ≡ xs ++ front ys) × (last_part (xs ++ ys) ≡ last_part ys)
front_behind [] ys h = (refl, refl)
front_behind (x ∷ []) [] h = absurd h
front_behind (x ∷ []) (y ∷ ys) h = (refl, refl)
front_behind (x ∷ z ∷ zs) ys h = let e = front_behind (z ∷ zs) ys h in (ap (λ (l : List (List ℕ)). x ∷ l) e.0, e.1)

-- more bytes behind a text change only its open line
pub parts_append : (text more : List ℕ) → parts (text ++ more) ≡ front (parts text) ++ parts (last_part (parts text) ++ more)
parts_append [] more = refl
parts_append (b ∷ bs) more = by_test (is_feed b) refl (parts bs) (some_parts bs) refl (parts_append bs more)
  where
    onto : (ps qs : List (List ℕ)) (t : Bool) → is_feed b ≡ false → IsSome ps → qs ≡ front ps ++ parts (last_part ps ++ more) → onto_first b qs ≡ front (onto_first b ps) ++ parts (last_part (onto_first b ps) ++ more)
    onto [] qs t e h is = absurd h
    onto (p ∷ []) qs t e h is = rw (is, e) refl
    onto (p ∷ r ∷ rs) qs t e h is = rw is refl

    by_test : (t : Bool) → is_feed b ≡ t → (ps : List (List ℕ)) → IsSome ps → parts bs ≡ ps → parts (bs ++ more) ≡ front (parts bs) ++ parts (last_part (parts bs) ++ more)
        → parts (b ∷ bs ++ more) ≡ front (parts (b ∷ bs)) ++ parts (last_part (parts (b ∷ bs)) ++ more)
    by_test true e [] h is so = absurd h
    by_test true e (p ∷ ps) h is so = rw (e, so, is) refl
    by_test false e ps h is so = rw (e, is) (onto ps (parts (bs ++ more)) false e h (rw is at so))

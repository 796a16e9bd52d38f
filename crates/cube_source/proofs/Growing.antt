-- Lists that grow by what passes a test, up to so many elements.
use Rattle.std.specs.List.{flat_map}
use Rattle.std.proofs.Common.{◌≡◌, ℕ, zero, suc, ◌+◌, ◌-◌, ◌<◌, ◌≤◌, Bool, true, false, cond, List, [], ◌∷◌, ◌++◌, length, map, filter, take, drop, get_or, refl, sym, ap, ap₂, ◌∙◌, arith, zero-add, add-zero}
use Rattle.std.proofs.lemmas.List.{append-nil, append_assoc, map-append, take_all, take_at, take_more, take-append-drop}
use Rattle.cube_model.specs.Cubes.{count_from}
use Rattle.cube_model.proofs.DimsFacts.{count_from-more}
use Rattle.cube_source.proofs.Once.{filter_joined}

pub next : {X : Type 0} (xs : List X) (i : ℕ) (x : X) → i < length xs → x ≡ get_or xs i x → take (i + 1) xs ≡ take i xs ++ x ∷ []
next xs i x l is = take_more xs i x l ∙ ap (λ y. take i xs ++ y ∷ []) (sym is)

pub passed_more : {X : Type 0} (p : X → Bool) (xs : List X) (i : ℕ) (x : X) → i < length xs → x ≡ get_or xs i x → p x ≡ true → filter p (take (i + 1) xs) ≡ filter p (take i xs) ++ x ∷ []
passed_more p xs i x l is e = ap (filter p) (next xs i x l is) ∙ filter_joined p (take i xs) (x ∷ []) ∙ ap (λ (b : Bool). filter p (take i xs) ++ cond b (x ∷ []) []) e

pub failed_more : {X : Type 0} (p : X → Bool) (xs : List X) (i : ℕ) (x : X) → i < length xs → x ≡ get_or xs i x → p x ≡ false → filter p (take (i + 1) xs) ≡ filter p (take i xs)
failed_more p xs i x l is e = ap (filter p) (next xs i x l is) ∙ filter_joined p (take i xs) (x ∷ []) ∙ ap (λ (b : Bool). filter p (take i xs) ++ cond b (x ∷ []) []) e ∙ append-nil (filter p (take i xs))

-- ---- elements that pass are put behind others

pub grown_more : {X Y : Type 0} (f : X → Y) (p : X → Bool) (xs : List X) (i : ℕ) (x : X) (old now : List Y) → i < length xs → x ≡ get_or xs i x → p x ≡ true → now ≡ old ++ map f (filter p (take i xs)) → now ++ f x ∷ [] ≡ old ++ map f (filter p (take (i + 1) xs))
grown_more f p xs i x old now l is e h =
    ap (λ ys. ys ++ f x ∷ []) h ∙ append_assoc old (map f (filter p (take i xs))) (f x ∷ [])
    ∙ ap (λ ys. old ++ ys) (sym (map-append f (filter p (take i xs)) (x ∷ [])) ∙ ap (map f) (sym (passed_more p xs i x l is e)))

pub grown_same : {X Y : Type 0} (f : X → Y) (p : X → Bool) (xs : List X) (i : ℕ) (x : X) (old now : List Y) → i < length xs → x ≡ get_or xs i x → p x ≡ false → now ≡ old ++ map f (filter p (take i xs)) → now ≡ old ++ map f (filter p (take (i + 1) xs))
grown_same f p xs i x old now l is e h = h ∙ ap (λ ys. old ++ map f ys) (sym (failed_more p xs i x l is e))

pub grown_full : {X Y : Type 0} (f : X → Y) (p : X → Bool) (xs : List X) (i most : ℕ) (old now : List Y) → length now ≡ most → now ≡ old ++ map f (filter p (take i xs)) → now ≡ take most (old ++ map f (filter p xs))
grown_full f p xs i most old now size h =
    sym (ap (take most) (ap (λ ys. old ++ map f ys) (sym (ap (filter p) (take-append-drop i xs)) ∙ filter_joined p (take i xs) (drop i xs))
    ∙ ap (λ ys. old ++ ys) (map-append f (filter p (take i xs)) (filter p (drop i xs)))
    ∙ sym (append_assoc old (map f (filter p (take i xs))) (map f (filter p (drop i xs))))
    ∙ ap (λ ys. ys ++ map f (filter p (drop i xs))) (sym h))
    ∙ take_at now (map f (filter p (drop i xs))) most size)

pub grown_all : {X Y : Type 0} (f : X → Y) (p : X → Bool) (xs : List X) (i most : ℕ) (old now : List Y) → length xs ≤ i → length now ≤ most → now ≡ old ++ map f (filter p (take i xs)) → now ≡ take most (old ++ map f (filter p xs))
grown_all f p xs i most old now l room h =
    let whole = h ∙ ap (λ ys. old ++ map f (filter p ys)) (take_all i xs l) in
    sym (ap (take most) (sym whole) ∙ take_all most now room)

-- ---- what is kept of a list that grows

pub kept_twice : {X : Type 0} (most : ℕ) (xs ys : List X) → take most (take most xs ++ ys) ≡ take most (xs ++ ys)
kept_twice zero xs ys = refl
kept_twice (suc most) [] ys = refl
kept_twice (suc most) (x ∷ xs) ys = ap (λ zs. x ∷ zs) (kept_twice most xs ys)

-- the lists of one element more
pub flat_last : {X Y : Type 0} (f : X → List Y) (xs : List X) (x : X) → flat_map f (xs ++ x ∷ []) ≡ flat_map f xs ++ f x
flat_last f [] x = append-nil (f x)
flat_last f (y ∷ ys) x = ap (λ zs. f y ++ zs) (flat_last f ys x) ∙ sym (append_assoc (f y) (flat_map f ys) (f x))

pub flat_more : {X Y : Type 0} (f : X → List Y) (xs : List X) (i : ℕ) (x : X) → i < length xs → x ≡ get_or xs i x → flat_map f (take (i + 1) xs) ≡ flat_map f (take i xs) ++ f x
flat_more f xs i x l is = ap (flat_map f) (next xs i x l is) ∙ flat_last f (take i xs) x

pub take_short : {X : Type 0} (most : ℕ) (xs : List X) → length (take most xs) ≤ most
take_short zero xs = omega arith
take_short (suc most) [] = omega arith
take_short (suc most) (x ∷ xs) = let r = take_short most xs in omega (arith, r)

pub none_taken : {X : Type 0} (most : ℕ) → take {A = X} most [] ≡ []
none_taken zero = refl
none_taken (suc most) = refl

pub filter_fewer : {X : Type 0} (p : X → Bool) (xs : List X) → length (filter p xs) ≤ length xs
filter_fewer p [] = omega arith
filter_fewer p (x ∷ xs) = go (p x) (filter_fewer p xs)
  where
    go : (b : Bool) → length (filter p xs) ≤ length xs → length (cond b (x ∷ filter p xs) (filter p xs)) ≤ suc (length xs)
    go true r = omega (arith, r)
    go false r = omega (arith, r)

-- ---- numbers in order that pass a test

pub number_last : (k : ℕ) → count_from 0 (k + 1) ≡ count_from 0 k ++ k ∷ []
number_last k = count_from-more 0 k ∙ ap (λ (j : ℕ). count_from 0 k ++ j ∷ []) (zero-add k)

pub number_passed : (p : ℕ → Bool) (k : ℕ) → p k ≡ true → filter p (count_from 0 (k + 1)) ≡ filter p (count_from 0 k) ++ k ∷ []
number_passed p k e = ap (filter p) (number_last k) ∙ filter_joined p (count_from 0 k) (k ∷ []) ∙ ap (λ (b : Bool). filter p (count_from 0 k) ++ cond b (k ∷ []) []) e

pub number_failed : (p : ℕ → Bool) (k : ℕ) → p k ≡ false → filter p (count_from 0 (k + 1)) ≡ filter p (count_from 0 k)
number_failed p k e = ap (filter p) (number_last k) ∙ filter_joined p (count_from 0 k) (k ∷ []) ∙ ap (λ (b : Bool). filter p (count_from 0 k) ++ cond b (k ∷ []) []) e ∙ append-nil (filter p (count_from 0 k))

count_split : (s a b n : ℕ) → n ≡ a + b → count_from s n ≡ count_from s a ++ count_from (s + a) b
count_split s zero b n e = ap₂ count_from (sym (add-zero s)) (e ∙ zero-add b)
count_split s (suc a) b zero e = absurd (omega (arith, e))
count_split s (suc a) b (suc n) e = ap (λ (ks : List ℕ). s ∷ ks) (count_split (suc s) a b n (omega (arith, e)) ∙ ap (λ (k : ℕ). count_from (suc s) a ++ count_from k b) (omega arith))

pub numbers_full : {Y : Type 0} (f : ℕ → Y) (p : ℕ → Bool) (n k most : ℕ) (now : List Y) → k ≤ n → length now ≡ most → now ≡ map f (filter p (count_from 0 k)) → now ≡ take most (map f (filter p (count_from 0 n)))
numbers_full f p n k most now l size h =
    sym (ap (take most) (ap (λ (ks : List ℕ). map f (filter p ks)) (count_split 0 k (n - k) n (omega (arith, l)))
    ∙ ap (map f) (filter_joined p (count_from 0 k) (count_from (0 + k) (n - k)))
    ∙ map-append f (filter p (count_from 0 k)) (filter p (count_from (0 + k) (n - k)))
    ∙ ap (λ ys. ys ++ map f (filter p (count_from (0 + k) (n - k)))) (sym h))
    ∙ take_at now (map f (filter p (count_from (0 + k) (n - k)))) most size)

pub numbers_all : {Y : Type 0} (f : ℕ → Y) (p : ℕ → Bool) (n k most : ℕ) (now : List Y) → k ≤ n → n ≤ k → length now ≤ most → now ≡ map f (filter p (count_from 0 k)) → now ≡ take most (map f (filter p (count_from 0 n)))
numbers_all f p n k most now a b room h =
    let same : k ≡ n = omega (arith, a, b) in
    let whole = h ∙ ap (λ (j : ℕ). map f (filter p (count_from 0 j))) same in
    sym (ap (take most) (sym whole) ∙ take_all most now room)

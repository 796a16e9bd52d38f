-- Each cuboid stands at its number.
use Rattle.std.specs.List.{slice_get}
use Rattle.std.proofs.Common.{◌≡◌, ℕ, zero, suc, ◌+◌, ◌*◌, ◌<◌, ◌≤◌, true, List, [], ◌∷◌, ◌++◌, length, map, flat_map, Some, refl, sym, ap, ◌∙◌, subst, arith, leb}
use Rattle.std.proofs.Math.Nat.{mul-le-mul_right, suc-mul, zero-mul}
use Rattle.std.proofs.lemmas.Bool.{false≢true, and_parts, leb-true}
use Rattle.std.proofs.lemmas.List.{length-append}
use Rattle.cube_model.specs.Cubes.{Dimension, cuboids_below, cuboid_count, cuboid_number, are_levels, count_from}
use Rattle.cube_model.specs.Meanings.{CuboidsAreNumbered}

-- the levels of all, one for each dimension
pub top : List Dimension → List ℕ
top ds = map (λ d. d.levels) ds

-- blocks of one length, one after another
pub blocks_length : {X : Type 0} (f : ℕ → List X) (w : ℕ) → ((a : ℕ) → length (f a) ≡ w) → (s n : ℕ) → length (flat_map f (count_from s n)) ≡ n * w
blocks_length f w each s zero = sym (zero-mul w)
blocks_length f w each s (suc n) = length-append (f s) (flat_map f (count_from (suc s) n)) ∙ more (length (f s)) (length (flat_map f (count_from (suc s) n))) (n * w) (suc n * w) (each s) (blocks_length f w each (suc s) n) (suc-mul n w)
  where
    more : (a b c d : ℕ) → a ≡ w → b ≡ c → d ≡ c + w → a + b ≡ d
    more a b c d p q r = omega arith

pub get_left : {X : Type 0} (xs ys : List X) (n : ℕ) (x : X) → slice_get xs n ≡ Some x → slice_get (xs ++ ys) n ≡ Some x
get_left [] ys n x e = absurd (cc)
get_left (z ∷ xs) ys zero x e = e
get_left (z ∷ xs) ys (suc n) x e = get_left xs ys n x e

pub get_right : {X : Type 0} (xs ys : List X) (n : ℕ) → slice_get (xs ++ ys) (length xs + n) ≡ slice_get ys n
get_right [] ys n = ap (slice_get ys) (none n)
  where
    none : (n : ℕ) → 0 + n ≡ n
    none n = omega arith
get_right (x ∷ xs) ys n = ap (slice_get (x ∷ (xs ++ ys))) (one (length xs) n) ∙ get_right xs ys n
  where
    one : (a n : ℕ) → suc a + n ≡ suc (a + n)
    one a n = omega arith

pub get_map : {X Y : Type 0} (f : X → Y) (xs : List X) (n : ℕ) (x : X) → slice_get xs n ≡ Some x → slice_get (map f xs) n ≡ Some (f x)
get_map f [] n x e = absurd (cc)
get_map f (z ∷ xs) zero x e = let q : z ≡ x = cc in ap (λ y. Some (f y)) q
get_map f (z ∷ xs) (suc n) x e = get_map f xs n x e

pub length_map : {X Y : Type 0} (f : X → Y) (xs : List X) → length (map f xs) ≡ length xs
length_map f [] = refl
length_map f (x ∷ xs) = ap suc (length_map f xs)

pub in_block : {X : Type 0} (f : ℕ → List X) (w : ℕ) → ((a : ℕ) → length (f a) ≡ w) → (s k i n : ℕ) (x : X) → i < k → slice_get (f (s + i)) n ≡ Some x → slice_get (flat_map f (count_from s k)) (i * w + n) ≡ Some x
in_block f w each s zero i n x l e = absurd (omega arith)
in_block f w each s (suc k) zero n x l e = ap (slice_get (f s ++ flat_map f (count_from (suc s) k))) (none (0 * w) n (zero-mul w)) ∙ get_left (f s) (flat_map f (count_from (suc s) k)) n x (subst (λ y. slice_get (f y) n ≡ Some x) (start s) e)
  where
    start : (s : ℕ) → s + 0 ≡ s
    start s = omega arith

    none : (a n : ℕ) → a ≡ 0 → a + n ≡ n
    none a n p = omega arith
in_block f w each s (suc k) (suc i) n x l e =
    ap (slice_get (f s ++ flat_map f (count_from (suc s) k))) (place (length (f s)) (i * w) (suc i * w) n (each s) (suc-mul i w))
    ∙ get_right (f s) (flat_map f (count_from (suc s) k)) (i * w + n)
    ∙ in_block f w each (suc s) k i n x (omega arith) (subst (λ y. slice_get (f y) n ≡ Some x) (shift s i) e)
  where
    place : (a b c n : ℕ) → a ≡ w → c ≡ b + w → c + n ≡ a + (b + n)
    place a b c n p q = omega arith

    shift : (s i : ℕ) → s + suc i ≡ suc s + i
    shift s i = omega arith

pub length_below : (ds : List Dimension) → length (cuboids_below (top ds)) ≡ cuboid_count ds
unfolding top
length_below [] = refl
length_below (d ∷ ds) = blocks_length (λ a. map (λ rest. a ∷ rest) (cuboids_below (top ds))) (cuboid_count ds) (λ a. length_map (λ rest. a ∷ rest) (cuboids_below (top ds)) ∙ length_below ds) 0 (suc d.levels)

-- the number is one of so many
pub number_below : (ds : List Dimension) (c : List ℕ) → are_levels ds c ≡ true → cuboid_number ds c < cuboid_count ds
number_below [] [] e = omega arith
number_below [] (l ∷ ls) e = absurd (false≢true e)
number_below (d ∷ ds) [] e = absurd (false≢true e)
number_below (d ∷ ds) (l ∷ ls) e =
    let p = and_parts (leb l d.levels) (are_levels ds ls) e in
    below (l * cuboid_count ds) (d.levels * cuboid_count ds) (cuboid_count ds) (cuboid_number ds ls) (suc d.levels * cuboid_count ds) (mul-le-mul_right (cuboid_count ds) (leb-true l d.levels p.0)) (number_below ds ls p.1) (suc-mul d.levels (cuboid_count ds))
  where
    below : (a b w n c : ℕ) → a ≤ b → n < w → c ≡ b + w → a + n < c
    below a b w n c p q r = omega arith

pub stands_at : (ds : List Dimension) (c : List ℕ) → are_levels ds c ≡ true → slice_get (cuboids_below (top ds)) (cuboid_number ds c) ≡ Some c
unfolding top
stands_at [] [] e = refl
stands_at [] (l ∷ ls) e = absurd (false≢true e)
stands_at (d ∷ ds) [] e = absurd (false≢true e)
stands_at (d ∷ ds) (l ∷ ls) e =
    let p = and_parts (leb l d.levels) (are_levels ds ls) e in
    let k : l ≤ d.levels = leb-true l d.levels p.0 in
    in_block (λ a. map (λ rest. a ∷ rest) (cuboids_below (top ds))) (cuboid_count ds) (λ a. length_map (λ rest. a ∷ rest) (cuboids_below (top ds)) ∙ length_below ds)
    0 (suc d.levels) l (cuboid_number ds ls) (l ∷ ls) (omega arith)
    (subst (λ a. slice_get (map (λ rest. a ∷ rest) (cuboids_below (top ds))) (cuboid_number ds ls) ≡ Some (l ∷ ls)) (none l) (get_map (λ rest. l ∷ rest) (cuboids_below (top ds)) (cuboid_number ds ls) ls (stands_at ds ls p.1)))
  where
    none : (a : ℕ) → a ≡ 0 + a
    none a = omega arith

pub cuboids_are_numbered : CuboidsAreNumbered
unfolding top
cuboids_are_numbered g = record { all = length_below g.dimensions; at = λ c e. stands_at g.dimensions c e }

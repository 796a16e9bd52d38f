-- The numbers of the made names among the members of their levels.
use Rattle.std.proofs.Common.{◌≡◌, ℕ, zero, suc, ◌+◌, ◌*◌, ◌%◌, ◌^◌, ◌<◌, ◌≤◌, true, false, not, List, [], ◌∷◌, ◌++◌, length, map, filter, get_or, codes, decimal, Some, refl, ap, subst, ◌∙◌, arith, mod-eq_of_lt, mod-lt, add-zero}
use Rattle.std.specs.Prelude.{slice_index_or}
use Rattle.std.specs.List.{list_any}
use Rattle.std.specs.Str.{bytes_eq}
use Rattle.std.proofs.lemmas.List.{append_cancel_left, map-append}
use Rattle.std.proofs.lemmas.Fmt.{decimal_injective}
use Rattle.cube_model.specs.Cubes.{same, distinct, count_from}
use Rattle.cube_model.specs.Dims.{AreDistinct, members, found}
use Rattle.cube_model.proofs.Members.{tested, same_eq}
use Rattle.cube_model.proofs.DimsFacts.{Has, has_at, distinct-push, count_from-more}
use Rattle.cube_model.proofs.Found.{found_in}
use Rattle.cube_gen.specs.Made.{numbered}
use Rattle.cube_made.specs.Laws.{IsSize}
use Rattle.cube_made.specs.Values.{branch_path, month_path, grade_path, branch, month, grade}

-- a number is told by its text behind a word
pub numbered_apart : (word : List ℕ) (i j : ℕ) → i < 2 ^ 64 → j < 2 ^ 64 → numbered word i ≡ numbered word j → i ≡ j
numbered_apart word i j p q e = decimal_injective i j p q (append_cancel_left word (decimal i) (decimal j) e)

-- ---- names that tell their numbers

-- the names of the numbers below an end differ
abbrev pub AreApart : (ℕ → List ℕ) → ℕ → Type 0
AreApart f n = (i j : ℕ) → i < n → j < n → f i ≡ f j → i ≡ j

other_name : (f : ℕ → List ℕ) (n i j : ℕ) → AreApart f n → i < j → j < n → same (f i) (f j) ≡ false
other_name f n i j h l m = tested (same (f i) (f j))
    (λ t. let e = h i j (omega arith) m (same_eq (f i) (f j) t) in absurd (omega (arith, e, l)))
    (λ u. u)

all_stay : (f : ℕ → List ℕ) (n i a k : ℕ) → AreApart f n → i < a → a + k ≤ n → filter (λ y. not (same (f i) y)) (map f (count_from a k)) ≡ map f (count_from a k)
all_stay f n i a zero h l m = refl
all_stay f n i a (suc k) h l m = rw (other_name f n i a h l (omega arith)) (ap (λ (ys : List (List ℕ)). f a ∷ ys) (all_stay f n i (suc a) k h (omega arith) (omega arith)))

all_once : (f : ℕ → List ℕ) (n a k : ℕ) → AreApart f n → a + k ≤ n → AreDistinct (map f (count_from a k))
all_once f n a zero h m = refl
all_once f n a (suc k) h m =
    ap (λ (ys : List (List ℕ)). f a ∷ filter (λ y. not (same (f a) y)) ys) (all_once f n (suc a) k h (omega arith))
    ∙ ap (λ (ys : List (List ℕ)). f a ∷ ys) (all_stay f n a (suc a) k h (omega arith) (omega arith))

-- each name stands once
pub names_once : (f : ℕ → List ℕ) (n : ℕ) → AreApart f n → AreDistinct (map f (count_from 0 n))
names_once f n h = all_once f n 0 n h (omega arith)

pub length_named : (f : ℕ → List ℕ) (a k : ℕ) → length (map f (count_from a k)) ≡ k
length_named f a zero = refl
length_named f a (suc k) = ap suc (length_named f (suc a) k)

nth_name : (f : ℕ → List ℕ) (a k i : ℕ) → i < k → get_or (map f (count_from a k)) i [] ≡ f (a + i)
nth_name f a zero i l = absurd (omega (arith, l))
nth_name f a (suc k) zero l = ap f (omega arith)
nth_name f a (suc k) (suc i) l = nth_name f (suc a) k i (omega (arith, l)) ∙ ap f (omega arith)

pub name_at : (f : ℕ → List ℕ) (n i : ℕ) → i < n → get_or (map f (count_from 0 n)) i [] ≡ f i
name_at f n i l = nth_name f 0 n i l ∙ ap f (omega arith)

-- a name is found at its number
pub found_name : (f : ℕ → List ℕ) (n k : ℕ) → AreApart f n → k < n → found (f k) (map f (count_from 0 n)) ≡ Some k
found_name f n k h l = found_in (map f (count_from 0 n)) k (f k) (names_once f n h) (let e = length_named f 0 n in omega (arith, e, l)) (name_at f n k l)

numbers_apart : (word : List ℕ) (n : ℕ) → n ≤ 2 ^ 64 → AreApart (λ k. numbered word k) n
numbers_apart word n h = λ i j l m e. numbered_apart word i j (omega (arith, h, l)) (omega (arith, h, m)) e

-- ---- names that come again

-- the names of the numbers modulo an end
abbrev pub again : (ℕ → List ℕ) → ℕ → ℕ → List ℕ
again f n k = f (k % n)

below_end : (f : ℕ → List ℕ) (n a k : ℕ) → a + k ≤ n → map (again f n) (count_from a k) ≡ map f (count_from a k)
below_end f n a zero h = refl
below_end f n a (suc k) h = rw (mod-eq_of_lt (let l : a < n = omega (arith, h) in l)) (ap (λ (ys : List (List ℕ)). f a ∷ ys) (below_end f n (suc a) k (omega (arith, h))))

name_there : (f : ℕ → List ℕ) (n i : ℕ) → i < n → list_any (bytes_eq (f i)) (map f (count_from 0 n)) ≡ true
name_there f n i l =
    let e = name_at f n i l in
    let t : Has (get_or (map f (count_from 0 n)) i []) (map f (count_from 0 n)) = has_at (map f (count_from 0 n)) i (let m = length_named f 0 n in omega (arith, m, l)) in
    subst (λ x. Has x (map f (count_from 0 n))) e t

-- of names that come again each stands once, those of the numbers below the end in order
pub names_again : (f : ℕ → List ℕ) (n k : ℕ) → AreApart f n → 1 ≤ n → distinct (map (again f n) (count_from 0 (n + k))) ≡ map f (count_from 0 n)
names_again f n zero h l = rw (add-zero, below_end f n 0 n (omega arith)) (names_once f n h)
names_again f n (suc k) h l =
    let more : count_from 0 (n + suc k) ≡ count_from 0 (n + k) ++ (n + k) ∷ [] = ap (count_from 0) (omega arith) ∙ count_from-more 0 (n + k) ∙ ap (λ (i : ℕ). count_from 0 (n + k) ++ i ∷ []) (omega arith) in
    let there : list_any (bytes_eq (again f n (n + k))) (map f (count_from 0 n)) ≡ true = name_there f n ((n + k) % n) (mod-lt (n + k) l) in
    rw (more, map-append (again f n) (count_from 0 (n + k)) ((n + k) ∷ []), distinct-push (map (again f n) (count_from 0 (n + k))) (again f n (n + k)), names_again f n k h l, there) refl

-- ---- the made names

names_of : (g : ℕ → List (List ℕ)) (l : ℕ) (ks : List ℕ) → map (λ path. slice_index_or path l []) (map g ks) ≡ map (λ k. slice_index_or (g k) l []) ks
names_of g l [] = refl
names_of g l (k ∷ ks) = ap (λ (ys : List (List ℕ)). slice_index_or (g k) l [] ∷ ys) (names_of g l ks)

pub branch_names : (s : ℕ) → s ≤ 20 → members (branch s) 0 ≡ map (numbered (codes "b")) (count_from 0 (40 * s))
branch_names s h = ap distinct (names_of (branch_path s) 0 (count_from 0 (40 * s))) ∙ names_once (numbered (codes "b")) (40 * s) (numbers_apart (codes "b") (40 * s) (omega (arith, h)))

pub region_names : (s : ℕ) → IsSize s → members (branch s) 1 ≡ map (numbered (codes "r")) (count_from 0 (5 * s))
region_names s h =
    let more : 40 * s ≡ 5 * s + 35 * s = omega arith in
    ap distinct (names_of (branch_path s) 1 (count_from 0 (40 * s)) ∙ ap (λ n. map (again (numbered (codes "r")) (5 * s)) (count_from 0 n)) more)
    ∙ names_again (numbered (codes "r")) (5 * s) (35 * s) (numbers_apart (codes "r") (5 * s) (omega (arith, h))) (omega (arith, h))

months_apart : AreApart (λ k. numbered (codes "m") (k + 1)) 12
months_apart = λ i j l m e. let same : i + 1 ≡ j + 1 = numbered_apart (codes "m") (i + 1) (j + 1) (omega (arith, l)) (omega (arith, m)) e in omega (arith, same)

pub month_names : members month 0 ≡ map (λ k. numbered (codes "m") (k + 1)) (count_from 0 12)
month_names = ap distinct (names_of month_path 0 (count_from 0 12)) ∙ names_once (λ k. numbered (codes "m") (k + 1)) 12 months_apart

pub grade_names : members grade 0 ≡ map (numbered (codes "g")) (count_from 0 6)
grade_names = ap distinct (names_of grade_path 0 (count_from 0 6)) ∙ names_once (numbered (codes "g")) 6 (numbers_apart (codes "g") 6 (omega arith))

-- ---- their numbers

found_among : (names : List (List ℕ)) (f : ℕ → List ℕ) (n k : ℕ) → names ≡ map f (count_from 0 n) → AreApart f n → k < n → found (f k) names ≡ Some k
found_among names f n k e h l = ap (found (f k)) e ∙ found_name f n k h l

pub found_branch : (s k : ℕ) → IsSize s → k < 40 * s → found (numbered (codes "b") k) (members (branch s) 0) ≡ Some k
found_branch s k h l = found_among (members (branch s) 0) (numbered (codes "b")) (40 * s) k (branch_names s h.1) (numbers_apart (codes "b") (40 * s) (omega (arith, h))) l

pub found_region : (s k : ℕ) → IsSize s → k < 5 * s → found (numbered (codes "r") k) (members (branch s) 1) ≡ Some k
found_region s k h l = found_among (members (branch s) 1) (numbered (codes "r")) (5 * s) k (region_names s h) (numbers_apart (codes "r") (5 * s) (omega (arith, h))) l

pub found_month : (k : ℕ) → k < 12 → found (numbered (codes "m") (k + 1)) (members month 0) ≡ Some k
found_month k l = found_among (members month 0) (λ i. numbered (codes "m") (i + 1)) 12 k month_names months_apart l

pub found_grade : (k : ℕ) → k < 6 → found (numbered (codes "g") k) (members grade 0) ≡ Some k
found_grade k l = found_among (members grade 0) (numbered (codes "g")) 6 k grade_names (numbers_apart (codes "g") 6 (omega arith)) l

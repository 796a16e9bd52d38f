-- One more step of each loop, and chains as the definitions have them.
use Rattle.std.proofs.Common.{◌≡◌, ◌≢◌, ℕ, suc, ◌+◌, ◌-◌, ◌*◌, ◌<◌, ◌≤◌, Bool, true, false, ◌&&◌, nat_le, min, List, [], ◌∷◌, ◌++◌, length, map, take, drop, set, get_or, refl, sym, ◌∙◌, ap, ap₂, arith, append_assoc, add-one, Option}
use Rattle.std.specs.List.{list_all, zip}
use Rattle.std.proofs.lemmas.List.{take_all, drop_more, drop_all, get_or_read, drop-set-lt, length-drop}
use Rattle.std.proofs.Math.Seq.{take-suc-set}
use Rattle.std.specs.List.{flat_map}
use Rattle.std.proofs.lemmas.Grind.{flat_map-append}
use Rattle.std.proofs.lemmas.List.{append-nil}
use Rattle.cube_model.specs.declared.request.Pick.{Pick}
use Rattle.cube_model.specs.Cubes.{Dimension, is_finer, meet, count_from, cuboids_below, cuboid_count, cuboid_number, are_levels}
use Rattle.cube_model.specs.Dims.{NamedDimension, plain, no_dimension}
use Rattle.cube_model.specs.Requests.{lesser, lesser_levels}
use Rattle.cube_model.proofs.DimsFacts.{count_from-more}
use Rattle.cube_model.proofs.Numbers.{number_below}
use Rattle.std.proofs.Math.Nat.{mul-le-mul_left}
use Rattle.std.proofs.lemmas.Bool.{and_parts, false≢true}

-- ---- the order of cuboids

pub finer_even : (a b : List ℕ) → length a ≡ length b → list_all (λ p. nat_le p.0 p.1) (zip a b) ≡ is_finer a b
finer_even [] [] e = refl
finer_even [] (y ∷ ys) e = absurd (omega (arith, e))
finer_even (x ∷ xs) [] e = absurd (omega (arith, e))
finer_even (x ∷ xs) (y ∷ ys) e = ap (λ (t : Bool). nat_le x y && t) (finer_even xs ys (omega (arith, e)))

pub finer_uneven : (a b : List ℕ) → length a ≢ length b → false ≡ is_finer a b
finer_uneven [] [] e = absurd (e refl)
finer_uneven [] (y ∷ ys) e = refl
finer_uneven (x ∷ xs) [] e = refl
finer_uneven (x ∷ xs) (y ∷ ys) e = by (nat_le x y) (finer_uneven xs ys (λ f. e (omega (arith, f))))
  where
    by : (t : Bool) → false ≡ is_finer xs ys → false ≡ (t && is_finer xs ys)
    by true f = f
    by false f = refl

-- ---- the meet

-- a list from an item on
from : (xs : List ℕ) (i : ℕ) → i < length xs → drop i xs ≡ get_or xs i 0 ∷ drop (i + 1) xs
from xs i lt = drop_more xs i 0 lt

-- one more level is lowered
pub lower_more : (whole a b : List ℕ) (i v : ℕ) → i < length a → length a ≡ length b → whole ≡ take i a ++ meet (drop i a) (drop i b) → v ≡ min (get_or a i 0) (get_or b i 0)
    → whole ≡ take (i + 1) (set a i v) ++ meet (drop (i + 1) (set a i v)) (drop (i + 1) b)
lower_more whole a b i v lt even is lowered =
    let rest = meet (drop (i + 1) a) (drop (i + 1) b) in
    let split : meet (drop i a) (drop i b) ≡ v ∷ rest = rw (from a i lt, from b i (omega (arith, even)), lowered) refl in
    let front : take (i + 1) (set a i v) ≡ take i a ++ v ∷ [] = rw add-one (take-suc-set a i v lt) in
    let behind : drop (i + 1) (set a i v) ≡ drop (i + 1) a = drop-set-lt (i + 1) a i v (omega arith) in
    is ∙ ap (λ (l : List ℕ). take i a ++ l) split ∙ sym (rw (front, behind) (append_assoc (take i a) (v ∷ []) rest))

-- all levels are lowered
pub lower_end : (whole a b : List ℕ) (i : ℕ) → length a ≤ i → whole ≡ take i a ++ meet (drop i a) (drop i b) → a ≡ whole
lower_end whole a b i le is = sym (is ∙ ap (λ (l : List ℕ). take i a ++ meet l (drop i b)) (drop_all i a le) ∙ append-nil (take i a) ∙ take_all i a le)

min_turned : (a b : ℕ) → min a b ≡ min b a
min_turned a b = omega arith

pub meet_turned : (a b : List ℕ) → length a ≡ length b → meet a b ≡ meet b a
meet_turned [] [] e = refl
meet_turned [] (y ∷ ys) e = absurd (omega (arith, e))
meet_turned (x ∷ xs) [] e = absurd (omega (arith, e))
meet_turned (x ∷ xs) (y ∷ ys) e = ap₂ (λ z zs. z ∷ zs) (min_turned x y) (meet_turned xs ys (omega (arith, e)))

-- ---- the grain

pub lesser_zip : (ls : List ℕ) (ps : List (Option Pick)) → map (λ p. lesser p.0 p.1) (zip ls ps) ≡ lesser_levels ls ps
lesser_zip [] ps = refl
lesser_zip (l ∷ ls) [] = refl
lesser_zip (l ∷ ls) (p ∷ ps) = ap (λ (t : List ℕ). lesser l p ∷ t) (lesser_zip ls ps)

-- ---- the cuboids below one

-- each level up to one before each of some cuboids
abbrev pub behind_levels : List (List ℕ) → List ℕ → List (List ℕ)
behind_levels cuboids levels = flat_map (λ first. map (λ others. first ∷ others) cuboids) levels

-- one more level
pub level_more : (cuboids all new : List (List ℕ)) (level : ℕ) → all ≡ behind_levels cuboids (count_from 0 level) → new ≡ all ++ map (λ others. level ∷ others) cuboids → new ≡ behind_levels cuboids (count_from 0 (level + 1))
level_more cuboids all new level is more =
    let f = λ (first : ℕ). map (λ (others : List ℕ). first ∷ others) cuboids in
    let e : 0 + level ≡ level = omega arith in
    let counted : count_from 0 (level + 1) ≡ count_from 0 level ++ level ∷ [] = rw e at (count_from-more 0 level) in
    more ∙ ap (λ (l : List (List ℕ)). l ++ f level) is ∙ sym (ap (flat_map f) counted ∙ flat_map-append f (count_from 0 level) (level ∷ []) ∙ ap (λ (l : List (List ℕ)). flat_map f (count_from 0 level) ++ l) (append-nil (f level)))

-- all levels
pub levels_end : (cuboids all : List (List ℕ)) (level n : ℕ) → all ≡ behind_levels cuboids (count_from 0 n) → n ≡ level + 1 → all ≡ behind_levels cuboids (count_from 0 (suc level))
levels_end cuboids all level n is last = let e : n ≡ suc level = omega (arith, last) in is ∙ ap (λ (k : ℕ). behind_levels cuboids (count_from 0 k)) e

-- one more dimension, from the last one on
pub below_more : (levels : List ℕ) (place : ℕ) (below new : List (List ℕ)) → 0 < place → place ≤ length levels → below ≡ cuboids_below (drop place levels) → new ≡ behind_levels below (count_from 0 (suc (get_or levels (place - 1) 0)))
    → new ≡ cuboids_below (drop (place - 1) levels)
below_more levels place below new some le is more =
    let e : place - 1 + 1 ≡ place = omega arith in
    let split : drop (place - 1) levels ≡ get_or levels (place - 1) 0 ∷ drop place levels = rw e at (from levels (place - 1) (omega arith)) in
    more ∙ ap (λ (l : List (List ℕ)). behind_levels l (count_from 0 (suc (get_or levels (place - 1) 0)))) is ∙ ap cuboids_below (sym split)

-- ---- the number

some_cuboids : (ds : List Dimension) → 1 ≤ cuboid_count ds
some_cuboids [] = omega arith
some_cuboids (d ∷ ds) =
    let rest = some_cuboids ds in
    let step : suc d.levels * 1 ≤ suc d.levels * cuboid_count ds = mul-le-mul_left (suc d.levels) rest in
    omega (arith, step)

-- where there are dimensions there are levels
levels_there : (d : Dimension) (ds : List Dimension) (ls : List ℕ) → are_levels (d ∷ ds) ls ≡ true → 0 < length ls
levels_there d ds [] e = absurd (false≢true e)
levels_there d ds (l ∷ ls) e = omega arith

-- one more digit is read
pub record OneMore (ds : List NamedDimension) (ls : List ℕ) (i number : ℕ) : Type 0 where
  pub there : i < length ls
  pub split : cuboid_number (map plain ds) ls ≡ number * cuboid_count (map plain (drop (i + 1) ds)) + cuboid_number (map plain (drop (i + 1) ds)) (drop (i + 1) ls)
  pub levels : are_levels (map plain (drop (i + 1) ds)) (drop (i + 1) ls) ≡ true
  pub small : number < cuboid_count (map plain ds)

pub one_more : (ds : List NamedDimension) (ls : List ℕ) (i number : ℕ) (d : NamedDimension) → are_levels (map plain ds) ls ≡ true → i < length ds → d ≡ get_or ds i d
    → cuboid_number (map plain ds) ls ≡ number * cuboid_count (map plain (drop i ds)) + cuboid_number (map plain (drop i ds)) (drop i ls) → are_levels (map plain (drop i ds)) (drop i ls) ≡ true
    → OneMore ds ls i (number * (length d.levels + 1) + get_or ls i 0)
one_more ds ls i number d all lt at split levels =
    let rest = drop (i + 1) ds in
    let x = get_or ls i 0 in
    let count = cuboid_count (map plain rest) in
    let behind = cuboid_number (map plain rest) (drop (i + 1) ls) in
    let here : drop i ds ≡ d ∷ rest = drop_more ds i no_dimension lt ∙ ap (λ (y : NamedDimension). y ∷ rest) (sym (get_or_read ds i d lt at no_dimension)) in
    let levels' : are_levels (plain d ∷ map plain rest) (drop i ls) ≡ true = rw here at levels in
    let some : 0 < length (drop i ls) = levels_there (plain d) (map plain rest) (drop i ls) levels' in
    let there : i < length ls = omega (arith, some, length-drop i ls) in
    let first : drop i ls ≡ x ∷ drop (i + 1) ls = drop_more ls i 0 there in
    let both = and_parts (nat_le x (length d.levels)) (are_levels (map plain rest) (drop (i + 1) ls)) (rw first at levels') in
    let split' : cuboid_number (map plain ds) ls ≡ number * (suc (length d.levels) * count) + (x * count + behind) = rw (here, first) at split in
    let next : cuboid_number (map plain ds) ls ≡ (number * (length d.levels + 1) + x) * count + behind = omega (arith, split') in
    let most = mul-le-mul_left (number * (length d.levels + 1) + x) (some_cuboids (map plain rest)) in
    record { there = there; split = next; levels = both.1; small = omega (arith, most, next, number_below (map plain ds) ls all) }

-- all digits are read
pub digits_end : (ds : List NamedDimension) (ls : List ℕ) (i number : ℕ) → length ds ≤ i → cuboid_number (map plain ds) ls ≡ number * cuboid_count (map plain (drop i ds)) + cuboid_number (map plain (drop i ds)) (drop i ls) → number ≡ cuboid_number (map plain ds) ls
digits_end ds ls i number le split = let whole : cuboid_number (map plain ds) ls ≡ number * 1 + 0 = rw (drop_all i ds le) at split in omega (arith, whole)

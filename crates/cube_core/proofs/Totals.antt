-- Sums over increasing places.
use Rattle.std.specs.List.{sum, sum_by, All}
use Rattle.std.specs.List.Sorted.{IsStrictlyIncreasing}
use Rattle.std.proofs.Common.{◌≡◌, ℕ, zero, suc, ◌+◌, ◌<◌, ◌≤◌, inl, inr, Bool, true, false, cond, List, [], ◌∷◌, length, map, filter, take, drop, get_or, ℤ, pos, ◌+ℤ◌, refl, sym, ap, ap₂, ◌∙◌, subst, arith, add-one, w64, FitsSigned}
use Rattle.std.proofs.lemmas.Int.{ints}
use Rattle.std.proofs.lemmas.List.Sums.{sum_by-cons, sum_by-drop_more, sum_by_more, sum_by_more_le}
use Rattle.cube_model.specs.declared.request.Request.{Request}
use Rattle.cube_model.specs.Cubes.{Public, count_from, IsIn}
use Rattle.cube_model.specs.Requests.{total, in_row, row_keys, row_at, rows}
use Rattle.cube_model.specs.Cores.{Core, IsCore, IsSumOf, AreSumsOf}
use Rattle.cube_model.proofs.Members.{IsIn-filter, IsIn-count_from}
use Rattle.cube_model.proofs.Sources.{Each-get_or}
use Rattle.cube_core.specs.Rows.{ArePlaces}

-- places from the first on, each before the next
abbrev pub AreFrom : ℕ → List ℕ → Type 0
AreFrom first [] = Unit {0}
AreFrom first (i ∷ is) = (first ≤ i) × AreFrom (suc i) is

tail_increasing : (i : ℕ) (is : List ℕ) → IsStrictlyIncreasing (i ∷ is) → IsStrictlyIncreasing is
tail_increasing i is h k l = let r = h (suc k) (omega (arith, l)) in rw add-one (rw add-one at r)

pub from_increasing : (first : ℕ) (is : List ℕ) → IsStrictlyIncreasing is → (0 < length is → first ≤ get_or is 0 0) → AreFrom first is
from_increasing first [] h l = tt
from_increasing first (i ∷ []) h l = (l (omega arith), tt)
from_increasing first (i ∷ j ∷ is) h l = (l (omega arith), from_increasing (suc i) (j ∷ is) (tail_increasing i (j ∷ is) h) (λ _. h 0 (omega arith)))

pub increasing_from : (first : ℕ) (is : List ℕ) → AreFrom first is → IsStrictlyIncreasing is
increasing_from first [] h k l = absurd (omega (arith, l))
increasing_from first (i ∷ []) h k l = absurd (omega (arith, l))
increasing_from first (i ∷ j ∷ is) h zero l = h.1.0
increasing_from first (i ∷ j ∷ is) h (suc k) l = let r = increasing_from (suc i) (j ∷ is) h.1 k (omega (arith, l)) in rw add-one (rw add-one at r)

pub filter_from : (t : ℕ → Bool) (first s n : ℕ) → first ≤ s → AreFrom first (filter t (count_from s n))
filter_from t first s zero l = tt
filter_from t first s (suc n) l = go (t s) (filter_from t (suc s) (suc s) n (omega arith)) (filter_from t first (suc s) n (omega (arith, l)))
  where
    go : (b : Bool) → AreFrom (suc s) (filter t (count_from (suc s) n)) → AreFrom first (filter t (count_from (suc s) n)) → AreFrom first (cond b (s ∷ filter t (count_from (suc s) n)) (filter t (count_from (suc s) n)))
    go true a b = (l, a)
    go false a b = b

-- ---- facts

drop_less : (facts : List ℕ) (a b : ℕ) → a ≤ b → sum (drop b facts) ≤ sum (drop a facts)
drop_less facts zero zero l = omega arith
drop_less facts (suc a) zero l = absurd (omega (arith, l))
drop_less [] zero (suc b) l = omega arith
drop_less [] (suc a) (suc b) l = omega arith
drop_less (x ∷ xs) zero (suc b) l =
    let r = drop_less xs 0 b (omega arith) in
    let e = sum_by-cons (λ (y : ℕ). y) x xs in
    omega (arith, r, e)
drop_less (x ∷ xs) (suc a) (suc b) l = drop_less xs a b (omega (arith, l))

-- the facts at places in order are not more than all from the first of them on
pub facts_less : (facts : List ℕ) (first : ℕ) (is : List ℕ) → AreFrom first is → All (λ i. i < length facts) is → sum_by (λ i. get_or facts i 0) is ≤ sum (drop first facts)
facts_less facts first [] h b = omega arith
facts_less facts first (i ∷ is) h b =
    let e = sum_by-cons (λ i. get_or facts i 0) i is in
    let rest = facts_less facts (suc i) is h.1 (λ k d l. b (suc k) d (omega (arith, l))) in
    let own = rw add-one at (sum_by-drop_more (λ (x : ℕ). x) facts i 0 (b 0 0 (omega arith))) in
    let less = drop_less facts first i h.0 in
    omega (arith, e, rest, own, less)

-- ---- totals

pub total_more : (vs : List ℤ) (is : List ℕ) (k : ℕ) → k < length is → total vs (take (k + 1) is) ≡ total vs (take k is) +ℤ get_or vs (get_or is k 0) (pos 0)
total_more vs is k l = rw add-one (up_to is k l)
  where
    up_to : (is : List ℕ) (k : ℕ) → k < length is → total vs (take (suc k) is) ≡ total vs (take k is) +ℤ get_or vs (get_or is k 0) (pos 0)
    up_to [] k l = absurd (omega (arith, l))
    up_to (i ∷ is) zero l = omega (arith, ints)
    up_to (i ∷ is) (suc k) l = let r = up_to is k (omega (arith, l)) in omega (arith, ints, r)

get_or-pos : (facts : List ℕ) (i : ℕ) → get_or (map pos facts) i (pos 0) ≡ pos (get_or facts i 0)
get_or-pos [] i = refl
get_or-pos (n ∷ facts) zero = refl
get_or-pos (n ∷ facts) (suc i) = get_or-pos facts i

pub total-facts : (facts : List ℕ) (is : List ℕ) → pos (sum_by (λ i. get_or facts i 0) is) ≡ total (map pos facts) is
total-facts facts [] = refl
total-facts facts (i ∷ is) =
    let e = sum_by-cons (λ i. get_or facts i 0) i is in
    let r = total-facts facts is in
    let own = get_or-pos facts i in
    rw (own, ← r) (omega (arith, ints, e))

-- ---- the places of a core

-- the facts at places in order are at most all facts
pub few_at_places : (core : Core) (places : List ℕ) → IsCore core → ArePlaces (length core.shape.points) places → sum_by (λ i. get_or core.shape.facts i 0) places ≤ 1000000
few_at_places core places ok are =
    let size = ok.facts in
    let below : All (λ i. i < length core.shape.facts) places = λ k d l. (let b = are.below k d l in omega (arith, b, size)) in
    let less = facts_less core.shape.facts 0 places (from_increasing 0 places are.increasing (λ _. omega arith)) below in
    let few = ok.few_facts in
    omega (arith, less, few)

-- what one place more makes of a sum
pub record IsMore (facts places : List ℕ) (vs : List ℤ) (k : ℕ) (sum value : ℤ) : Type 0 where
  pub total : sum +ℤ value ≡ total vs (take (k + 1) places)
  pub bound : IsSumOf (sum_by (λ i. get_or facts i 0) (take (k + 1) places)) (sum +ℤ value)
  pub fits : FitsSigned w64 (sum +ℤ value)
  pub value_fits : FitsSigned w64 value

pub sum_more : (facts places items : List ℕ) (vs : List ℤ) (k : ℕ) (s v : ℤ) → items ≡ places → k < length items → sum_by (λ i. get_or facts i 0) places ≤ 1000000
    → IsSumOf (sum_by (λ i. get_or facts i 0) (take k places)) s → IsSumOf (get_or facts (get_or items k 0) 0) v → v ≡ get_or vs (get_or items k 0) (pos 0) → s ≡ total vs (take k places) → IsMore facts places vs k s v
sum_more facts places items vs k s v e l few bound own value so_far =
    let size = ap length e in
    let below : k < length places = omega (arith, size, l) in
    let more = total_more vs places k below in
    let facts_more = sum_by_more (λ i. get_or facts i 0) places k 0 below in
    let most = sum_by_more_le (λ i. get_or facts i 0) places k 0 below in
    let at = ap (λ (is : List ℕ). get_or facts (get_or is k 0) 0) e in
    let value_at = ap (λ (is : List ℕ). get_or vs (get_or is k 0) (pos 0)) e in
    let own_bound = subst (λ (n : ℕ). IsSumOf n v) at own in
    record {
      total = ap₂ (λ a b. a +ℤ b) so_far (value ∙ value_at) ∙ sym more;
      bound = subst (λ (n : ℕ). IsSumOf n (s +ℤ v)) (sym facts_more) (omega (arith, ints, bound.0, own_bound.0), omega (arith, ints, bound.1, own_bound.1));
      fits = omega (arith, ints, few, most, bound.0, bound.1, own_bound.0, own_bound.1);
      value_fits = omega (arith, ints, few, most, own_bound.0, own_bound.1);
    }

-- a place in a row of a core, and its value
pub place_below : (many : ℕ) (places items : List ℕ) (k : ℕ) → ArePlaces many places → items ≡ places → k < length items → get_or items k 0 < many
place_below many places items k are e l =
    let size = ap length e in
    let below = are.below k 0 (omega (arith, size, l)) in
    let at = ap (λ (is : List ℕ). get_or is k 0) e in
    omega (arith, below, at)

pub length-values : (core : Core) (m : ℕ) → IsCore core → m < length core.dims.measures → length (get_or core.cube m []) ≡ length core.shape.points
length-values core m ok l = let size = ok.measures in Each-get_or (λ values. length values ≡ length core.shape.points) core.cube m [] ok.values (omega (arith, size, l))

pub value_bound : (core : Core) (m i : ℕ) → IsCore core → m < length core.dims.measures → i < length core.shape.points → IsSumOf (get_or core.shape.facts i 0) (get_or (get_or core.cube m []) i (pos 0))
value_bound core m i ok l k =
    let size = ok.measures in
    let long = length-values core m ok l in
    (Each-get_or (AreSumsOf core.shape.facts) core.cube m [] ok.bounded (omega (arith, size, l))) i (omega (arith, long, k))

-- ---- the places of the rows of a request

pub get_or_in : (xs : List ℕ) (k d : ℕ) → k < length xs → IsIn (get_or xs k d) xs
get_or_in [] k d l = absurd (omega (arith, l))
get_or_in (x ∷ xs) zero d l = inl refl
get_or_in (x ∷ xs) (suc k) d l = inr (get_or_in xs k d (omega (arith, l)))

pub ArePlaces-filter : (t : ℕ → Bool) (n : ℕ) → ArePlaces n (filter t (count_from 0 n))
ArePlaces-filter t n = record {
  below = λ k d l. (
      let a = IsIn-filter t (get_or (filter t (count_from 0 n)) k d) (count_from 0 n) (get_or_in (filter t (count_from 0 n)) k d l) in
      let b : get_or (filter t (count_from 0 n)) k d < 0 + n = (IsIn-count_from (get_or (filter t (count_from 0 n)) k d) 0 n a.1).1 in
      omega (arith, b));
  increasing = increasing_from 0 (filter t (count_from 0 n)) (filter_from t 0 0 n (omega arith));
}

All-map : {X Y : Type 0} (f : X → Y) (P : Y → Type 0) (xs : List X) → ((x : X) → P (f x)) → All P (map f xs)
All-map f P [] h k d l = absurd (omega (arith, l))
All-map f P (x ∷ xs) h zero d l = h x
All-map f P (x ∷ xs) h (suc k) d l = All-map f P xs h k d (omega (arith, l))

pub ArePlaces-rows : (g : Public) (r : Request) → All (λ row. ArePlaces (length g.shape.points) row.places) (rows g r)
ArePlaces-rows g r = All-map (row_at g r) (λ row. ArePlaces (length g.shape.points) row.places) (row_keys g r) (λ key. ArePlaces-filter (in_row g r key) (length g.shape.points))

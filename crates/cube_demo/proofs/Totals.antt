-- Sums over places, a place more; and how many places there are.
use Rattle.std.specs.List.{All}
use Rattle.std.proofs.Common.{◌≡◌, ℕ, suc, ◌+◌, ◌<◌, ◌≤◌, Bool, List, [], ◌∷◌, length, filter, take, get_or, ℤ, pos, ◌+ℤ◌, refl, sym, ap₂, ◌∙◌, subst, arith, w64, FitsSigned}
use Rattle.std.proofs.lemmas.Int.{ints}
use Rattle.std.proofs.lemmas.List.Sums.{length-filter, count_by-le-length}
use Rattle.cube_model.specs.declared.cell.Cell.{Cell}
use Rattle.cube_model.specs.declared.policy.Policy.{Policy}
use Rattle.cube_model.specs.Cores.{Core, IsSumOf, shown}
use Rattle.cube_model.specs.Cubes.{IsIn, covers, covered, count_from, key_at}
use Rattle.cube_model.specs.Requests.{total}
use Rattle.cube_model.proofs.Members.{IsIn-filter, IsIn-count_from}
use Rattle.cube_model.proofs.Sums.{length-count_from}
use Rattle.cube_source.specs.Blocks.{bare}
use Rattle.cube_core.specs.Rows.{ArePlaces}
use Rattle.cube_core.proofs.Totals.{AreFrom, from_increasing, total_more}
use Rattle.cube_demo.proofs.Cells.{all_here}

-- a place more of a sum
pub record IsMore (signs : List ℤ) (is : List ℕ) (k : ℕ) (s v : ℤ) : Type 0 where
  pub value_fits : FitsSigned w64 v
  pub fits : FitsSigned w64 (s +ℤ v)
  pub bound : IsSumOf (k + 1) (s +ℤ v)
  pub is_total : s +ℤ v ≡ total signs (take (k + 1) is)

pub one_more : (signs : List ℤ) (is : List ℕ) (k : ℕ) (s v : ℤ) → k < length is → length is ≤ 65536 → v ≡ get_or signs (get_or is k 0) (pos 0) → IsSumOf 1 v → s ≡ total signs (take k is) → IsSumOf k s → IsMore signs is k s v
one_more signs is k s v l few at small so_far bound = record {
  value_fits = omega (arith, ints, small.0, small.1);
  fits = omega (arith, ints, small.0, small.1, bound.0, bound.1, l, few);
  bound = (omega (arith, ints, small.0, bound.0), omega (arith, ints, small.1, bound.1));
  is_total = ap₂ (λ (x y : ℤ). x +ℤ y) so_far at ∙ sym (total_more signs is k l);
}

few_from : (n first : ℕ) (is : List ℕ) → AreFrom first is → All (λ i. i < n) is → first ≤ n → first + length is ≤ n
few_from n first [] h b l = omega (arith, l)
few_from n first (i ∷ is) h b l =
    let here = b 0 0 (omega arith) in
    let order = h.0 in
    let rest = few_from n (suc i) is h.1 (λ k d j. b (suc k) d (omega (arith, j))) (omega (arith, here)) in
    omega (arith, rest, order)

pub places_few : (n : ℕ) (is : List ℕ) → ArePlaces n is → length is ≤ n
places_few n is are = let few = few_from n 0 is (from_increasing 0 is are.increasing (λ l. omega arith)) are.below (omega arith) in omega (arith, few)

-- ---- covered places

covered_bare : (c : Core) (p : Policy) (t : Cell) → covered (shown c p) t ≡ covered (bare c) t
unfolding key_at
covered_bare c p t = refl

pub covered_is : (c : Core) (p : Policy) (t : Cell) (found : List ℕ) → found ≡ filter (covers (bare c) t) (count_from 0 (length c.shape.points)) → found ≡ covered (shown c p) t
covered_is c p t found is = is ∙ sym (covered_bare c p t)

pub filter_few : (p : ℕ → Bool) (n : ℕ) → length (filter p (count_from 0 n)) ≤ n
filter_few p n =
    let a = length-filter p (count_from 0 n) in
    let b = count_by-le-length p (count_from 0 n) in
    let e = length-count_from 0 n in
    omega (arith, a, b, e)

pub filter_below : (p : ℕ → Bool) (n : ℕ) (found : List ℕ) → found ≡ filter p (count_from 0 n) → All (λ i. i < n) found
filter_below p n found is = subst (All (λ i. i < n)) (sym is) (all_here (λ i. i < n) (filter p (count_from 0 n)) below)
  where
    below : (i : ℕ) → IsIn i (filter p (count_from 0 n)) → i < n
    below i h = let kept = IsIn-filter p i (count_from 0 n) h in let low = (IsIn-count_from i 0 n kept.1).1 in omega (arith, low)

-- The finest safe cuboids.
use Rattle.std.specs.Prelude.{◌+◌}
use Rattle.std.proofs.Common.{◌≡◌, ℕ, zero, suc, ◌<◌, ◌≤◌, ◌⊎◌, inl, inr, true, false, not, ◌&&◌, List, [], ◌∷◌, length, map, refl, sym, ap, ◌∙◌, arith, leb, eqb, ⊎_elim}
use Rattle.std.proofs.lemmas.Bool.{false≢true, and_parts, and_from, leb-true, not-true, not-false, eqb-true}
use Rattle.std.proofs.lemmas.Bool.Decides.{nat_tests}
use Rattle.cube_model.specs.Cubes.{Dimension, Public, same, is_finer, IsIn, are_levels, cuboids}
use Rattle.cube_model.specs.Protection.{protected, is_cut}
use Rattle.cube_model.specs.Entries.{requests}
use Rattle.cube_model.specs.Verdicts.{most_held}
use Rattle.cube_model.specs.Safe.{is_safe, safe, has_finer, finest, FinestAre, FinestAreAnswered}
use Rattle.cube_model.proofs.Compacts.{source_nothing}
use Rattle.cube_model.proofs.Finer.{is_finer_refl, is_finer_trans}
use Rattle.cube_model.proofs.Leasts.{safe_is_answered}
use Rattle.cube_model.proofs.Members.{tested, IsIn-filter, filter_has, same_eq}
use Rattle.cube_model.proofs.Objects.{below_finer, finer_below}
use Rattle.cube_model.proofs.Parities.{all_at, all_from}
use Rattle.cube_model.proofs.Walks.{any_from, any_has}

top : List Dimension → List ℕ
top ds = map (λ d. d.levels) ds

levels_finer : (ds : List Dimension) (c : List ℕ) → are_levels ds c ≡ true → is_finer c (top ds) ≡ true
unfolding top
levels_finer [] [] e = refl
levels_finer [] (l ∷ ls) e = absurd (false≢true e)
levels_finer (d ∷ ds) [] e = absurd (false≢true e)
levels_finer (d ∷ ds) (l ∷ ls) e = let a = and_parts (leb l d.levels) (are_levels ds ls) e in and_from (leb l d.levels) (is_finer ls (top ds)) a.0 (levels_finer ds ls a.1)

finer_levels : (ds : List Dimension) (c : List ℕ) → is_finer c (top ds) ≡ true → are_levels ds c ≡ true
unfolding top
finer_levels [] [] e = refl
finer_levels [] (l ∷ ls) e = absurd (false≢true e)
finer_levels (d ∷ ds) [] e = absurd (false≢true e)
finer_levels (d ∷ ds) (l ∷ ls) e = let a = and_parts (leb l d.levels) (is_finer ls (top ds)) e in and_from (leb l d.levels) (are_levels ds ls) a.0 (finer_levels ds ls a.1)

sum_levels : List ℕ → ℕ
sum_levels [] = zero
sum_levels (l ∷ ls) = l + sum_levels ls

sum_finer : (d c : List ℕ) → is_finer d c ≡ true → sum_levels d ≤ sum_levels c
unfolding sum_levels
sum_finer [] [] e = omega arith
sum_finer [] (b ∷ bs) e = absurd (false≢true e)
sum_finer (a ∷ as') [] e = absurd (false≢true e)
sum_finer (a ∷ as') (b ∷ bs) e = let p = and_parts (leb a b) (is_finer as' bs) e in let x : a ≤ b = leb-true a b p.0 in let y : sum_levels as' ≤ sum_levels bs = sum_finer as' bs p.1 in omega arith

-- what is finer and not the same has a lesser sum
sum_less : (d c : List ℕ) → is_finer d c ≡ true → same d c ≡ false → sum_levels d < sum_levels c
unfolding sum_levels
sum_less [] [] e n = absurd (false≢true (sym n))
sum_less [] (b ∷ bs) e n = absurd (false≢true e)
sum_less (a ∷ as') [] e n = absurd (false≢true e)
sum_less (a ∷ as') (b ∷ bs) e n =
    let p = and_parts (leb a b) (is_finer as' bs) e in
    let x : a ≤ b = leb-true a b p.0 in
    go x p.1 (sum_less as' bs p.1) (tested (eqb a b) (λ q. inl (q, ap (λ z. z && same as' bs) (sym q) ∙ n)) (λ q. inr q))
  where
    go : a ≤ b → is_finer as' bs ≡ true → (same as' bs ≡ false → sum_levels as' < sum_levels bs) → ((eqb a b ≡ true) × ((true && same as' bs) ≡ false)) ⊎ (eqb a b ≡ false) → a + sum_levels as' < b + sum_levels bs
    go x f less (inl q) = let y : sum_levels as' < sum_levels bs = less q.1 in let z : a ≡ b = eqb-true a b q.0 in omega arith
    go x f less (inr q) = let y : sum_levels as' ≤ sum_levels bs = sum_finer as' bs f in let z : a < b = grind (arith, nat_tests) in omega arith

module _ (g : Public) (m : ℕ) where
  safe_in : (c : List ℕ) → are_levels g.dimensions c ≡ true → is_safe g m c ≡ true → IsIn c (safe g m)
  unfolding top
  safe_in c r s = filter_has (is_safe g m) c (cuboids g) s (finer_below (top g.dimensions) c (levels_finer g.dimensions c r))

  in_safe : (c : List ℕ) → IsIn c (safe g m) → (is_safe g m c ≡ true) × (are_levels g.dimensions c ≡ true)
  unfolding top
  in_safe c k = let a = IsIn-filter (is_safe g m) c (cuboids g) k in (a.0, finer_levels g.dimensions c (below_finer (top g.dimensions) c a.1))

  in_finest : (c : List ℕ) → IsIn c (finest g m) → (has_finer (safe g m) c ≡ false) × IsIn c (safe g m)
  in_finest c k = let a = IsIn-filter (λ c. not (has_finer (safe g m) c)) c (safe g m) k in (not-true (has_finer (safe g m) c) a.0, a.1)

  -- a safe cuboid is above a finest one
  descend : (n : ℕ) (c : List ℕ) → sum_levels c < n → IsIn c (safe g m) → (d : List ℕ) × (IsIn d (finest g m)) × (is_finer d c ≡ true)
  descend zero c l k = absurd (omega arith)
  descend (suc n) c l k = tested (has_finer (safe g m) c)
      (λ e. let a = any_from (λ d. is_finer d c && not (same d c)) (safe g m) e in
      let p = and_parts (is_finer a.0 c) (not (same a.0 c)) a.2 in
      let less : sum_levels a.0 < sum_levels c = sum_less a.0 c p.0 (not-true (same a.0 c) p.1) in
      let r = descend n a.0 (omega arith) a.1 in
      (r.0, r.1, is_finer_trans r.0 a.0 c r.2 p.0))
      (λ e. (c, filter_has (λ c. not (has_finer (safe g m) c)) c (safe g m) (ap not e) k, is_finer_refl c))

pub finest_are : FinestAre
finest_are g m = record {
  in_range = λ c k. (in_safe g m c (in_finest g m c k).1).1;
  cuts = λ c t k z. all_at (is_cut g c) t (protected g m) (in_safe g m c (in_finest g m c k).1).0 z;
  apart = λ c d k z f. same_eq d c (not-false (same d c) (one c d k z f));
  complete = λ c r cuts. descend g m (suc (sum_levels c)) c (omega arith) (safe_in g m c r (all_from (is_cut g c) (protected g m) cuts));
}
  where
    one : (c d : List ℕ) → IsIn c (finest g m) → IsIn d (finest g m) → is_finer d c ≡ true → not (same d c) ≡ false
    one c d k z f = tested (not (same d c))
        (λ e. absurd (false≢true (sym (in_finest g m c k).0 ∙ any_has (λ d. is_finer d c && not (same d c)) d (safe g m) (in_finest g m d z).1 (and_from (is_finer d c) (not (same d c)) f e))))
        (λ e. e)

pub finest_are_answered : FinestAreAnswered
finest_are_answered w h r m c ok way q none room k fine =
    ⊎_elim (λ a. a) (λ a. let l : most_held ≤ length (requests h) = a.1 in absurd (omega arith))
    (safe_is_answered w h r m c ok way q (source_nothing h m none) (λ t z. (finest_are w.shown m).cuts c t k z) fine)

-- Levels that are looked at one by one.
use Rattle.std.proofs.Common.{◌≡◌, ◌≢◌, ℕ, zero, suc, ◌+◌, ◌<◌, ◌≤◌, List, [], ◌∷◌, length, take, map, Bool, true, false, ◌&&◌, nat_le, arith, refl, ap, subst, get_or}
use Rattle.std.proofs.lemmas.Bool.Decides.{nat_tests}
use Rattle.cube_model.specs.Cubes.{are_levels}
use Rattle.cube_model.specs.Dims.{NamedDimension, plain}

-- there are as many levels as dimensions
pub uneven : (ds : List NamedDimension) (ls : List ℕ) → length ls ≢ length ds → false ≡ are_levels (map plain ds) ls
uneven [] [] ne = absurd (ne refl)
uneven [] (l ∷ ls) ne = refl
uneven (d ∷ ds) [] ne = refl
uneven (d ∷ ds) (l ∷ ls) ne = by (nat_le l (length d.levels)) (uneven ds ls (λ e. ne (ap suc e)))
  where
    by : (t : Bool) → false ≡ are_levels (map plain ds) ls → false ≡ (t && are_levels (map plain ds) ls)
    by true e = e
    by false e = refl

-- the levels so far
level_next : (ds : List NamedDimension) (ls : List ℕ) (i : ℕ) (d : NamedDimension) → i < length ds → i < length ls → get_or ls i 0 ≤ length (get_or ds i d).levels → are_levels (map plain (take i ds)) (take i ls) ≡ true → are_levels (map plain (take (suc i) ds)) (take (suc i) ls) ≡ true
level_next [] ls i d lt lt' le so_far = absurd (omega arith)
level_next (e ∷ ds) [] i d lt lt' le so_far = absurd (omega arith)
level_next (e ∷ ds) (l ∷ ls) zero d lt lt' le so_far = let t : nat_le l (length e.levels) ≡ true = grind (arith, nat_tests) in rw t refl
level_next (e ∷ ds) (l ∷ ls) (suc i) d lt lt' le so_far = by (nat_le l (length e.levels)) so_far (level_next ds ls i d (omega arith) (omega arith) le)
  where
    by : (t : Bool) → (t && are_levels (map plain (take i ds)) (take i ls)) ≡ true → (are_levels (map plain (take i ds)) (take i ls) ≡ true → are_levels (map plain (take (suc i) ds)) (take (suc i) ls) ≡ true) → (t && are_levels (map plain (take (suc i) ds)) (take (suc i) ls)) ≡ true
    by true so_far more = more so_far
    by false so_far more = absurd (cc)

pub level_more : (ds : List NamedDimension) (ls : List ℕ) (i : ℕ) (d : NamedDimension) → i < length ds → i < length ls → get_or ls i 0 ≤ length (get_or ds i d).levels → are_levels (map plain (take i ds)) (take i ls) ≡ true → are_levels (map plain (take (i + 1) ds)) (take (i + 1) ls) ≡ true
level_more ds ls i d lt lt' le so_far = let e : suc i ≡ i + 1 = omega arith in subst (λ (n : ℕ). are_levels (map plain (take n ds)) (take n ls) ≡ true) e (level_next ds ls i d lt lt' le so_far)

-- a level out of range
pub level_fails : (ds : List NamedDimension) (ls : List ℕ) (i : ℕ) (d : NamedDimension) → i < length ds → i < length ls → length (get_or ds i d).levels < get_or ls i 0 → false ≡ are_levels (map plain ds) ls
level_fails [] ls i d lt lt' gt = absurd (omega arith)
level_fails (e ∷ ds) [] i d lt lt' gt = absurd (omega arith)
level_fails (e ∷ ds) (l ∷ ls) zero d lt lt' gt = let t : nat_le l (length e.levels) ≡ false = grind (arith, nat_tests) in rw t refl
level_fails (e ∷ ds) (l ∷ ls) (suc i) d lt lt' gt = by (nat_le l (length e.levels)) (level_fails ds ls i d (omega arith) (omega arith) gt)
  where
    by : (t : Bool) → false ≡ are_levels (map plain ds) ls → false ≡ (t && are_levels (map plain ds) ls)
    by true e = e
    by false e = refl

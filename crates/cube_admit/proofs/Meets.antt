-- When the meet of two cuboids is one of them.
use Rattle.std.proofs.Common.{◌≡◌, ℕ, Bool, ◌&&◌, nat_le, min, eqb, List, [], ◌∷◌, length, refl, sym, ap₂, arith}
use Rattle.std.proofs.lemmas.Bool.Decides.{nat_tests}
use Rattle.cube_model.specs.Cubes.{same, meet, is_finer}

min_test : (a b : ℕ) → eqb (min a b) a ≡ nat_le a b
min_test a b = grind (arith, nat_tests)

-- the source is as fine as the grain where its meet with the grain is the source
pub held_finer : (s c : List ℕ) → length s ≡ length c → is_finer s c ≡ same (meet s c) s
held_finer [] [] e = refl
held_finer [] (y ∷ ys) e = absurd (omega (arith, e))
held_finer (x ∷ xs) [] e = absurd (omega (arith, e))
held_finer (x ∷ xs) (y ∷ ys) e = ap₂ (λ (a b : Bool). a && b) (sym (min_test x y)) (held_finer xs ys (omega (arith, e)))

-- A source under one more cuboid, and the cuboids in their order.
use Rattle.std.proofs.Common.{◌≡◌, ◌<◌, ℕ, zero, suc, true, List, [], ◌∷◌, length, map, get_or, Option, Some, None, inl, inr, refl, sym, ◌∙◌, arith}
use Rattle.std.specs.Prelude.{IfSome}
use Rattle.cube_model.specs.Cubes.{Dimension, cuboids_below, are_levels, IsIn}
use Rattle.cube_model.specs.Verdicts.{narrowed}
use Rattle.cube_model.proofs.Compacts.{meet_in_range}
use Rattle.cube_model.proofs.Histories.{length-levels}
use Rattle.cube_model.proofs.Objects.{below_finer}
use Rattle.cube_advise.specs.Open.{InRange}
use Rattle.cube_advise.proofs.Opening.{levels_below}

pub narrow_long : (ds : List Dimension) (s : Option (List ℕ)) (c : List ℕ) → InRange ds s → are_levels ds c ≡ true → IfSome s (λ held. length held ≡ length c)
narrow_long ds None c r l = tt
narrow_long ds (Some s) c r l = length-levels ds s r ∙ sym (length-levels ds c l)

pub narrow_levels : (ds : List Dimension) (s : Option (List ℕ)) (c : List ℕ) → InRange ds s → are_levels ds c ≡ true → are_levels ds (narrowed s c) ≡ true
narrow_levels ds None c r l = l
narrow_levels ds (Some s) c r l = meet_in_range ds s c r l

pub get_or_in : {X : Type 0} (xs : List X) (k : ℕ) (d : X) → k < length xs → IsIn (get_or xs k d) xs
get_or_in [] k d l = absurd (omega arith)
get_or_in (x ∷ xs) zero d l = inl refl
get_or_in (x ∷ xs) (suc k) d l = inr (get_or_in xs k d (omega arith))

-- each cuboid has its levels in range
pub cuboid_levels : (ds : List Dimension) (c : List ℕ) → IsIn c (cuboids_below (map (λ d. d.levels) ds)) → are_levels ds c ≡ true
cuboid_levels ds c k = levels_below ds c ∙ below_finer (map (λ d. d.levels) ds) c k

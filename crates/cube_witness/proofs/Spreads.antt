-- The changes that are not 0, put at their places, are the changes.
use Rattle.std.specs.Ordering.{int_eq}
use Rattle.std.proofs.Common.{◌≡◌, ◌≢◌, ◌⊎◌, inl, inr, refl, sym, ap, ◌∙◌, subst, ℕ, zero, suc, ◌+◌, ◌<◌, ◌≤◌, Bool, true, false, cond, not, List, ◌∷◌, length, map, filter, fold, get_or, set, replicate, ℤ, pos, arith}
use Rattle.std.proofs.lemmas.List.{length-set, length-replicate, get_or-set_same, get_or-set_other, get_or-replicate, ext_get_or}
use Rattle.std.proofs.lemmas.Bool.Decides.{Decides-int_eq}
use Rattle.cube_model.specs.declared.change.Change.{Change}
use Rattle.cube_model.specs.Cubes.{count_from}
use Rattle.cube_model.specs.Twins.{moves}
use Rattle.cube_model.proofs.Members.{same_or_above}
use Rattle.cube_witness.specs.Laws.{MovesAreChanges}
use Rattle.cube_witness.specs.TwinFile.{set_sign, signs_of}
use Rattle.cube_witness.proofs.Twinning.{signs_long}

module _ (ch : List ℤ) where
  at : ℕ → ℤ
  at p = get_or ch p (pos 0)

  is_move : ℕ → Bool
  is_move p = not (int_eq (get_or ch p (pos 0)) (pos 0))

  move : ℕ → Change
  move p = record { place = p; by = get_or ch p (pos 0) }

  -- the changes at some places in a row, put into a list
  spread : List ℤ → ℕ → ℕ → List ℤ
  spread signs a k = fold set_sign signs (map move (filter is_move (count_from a k)))

  one : List ℤ → ℕ → List ℤ
  one signs a = cond (is_move a) (set signs a (at a)) signs

  next : (signs : List ℤ) (a k : ℕ) → spread signs a (suc k) ≡ spread (one signs a) (suc a) k
  unfolding spread one move at
  next signs a k = go (is_move a)
    where
      go : (b : Bool) → fold set_sign signs (map move (cond b (a ∷ filter is_move (count_from (suc a) k)) (filter is_move (count_from (suc a) k)))) ≡ fold set_sign (cond b (set signs a (get_or ch a (pos 0))) signs) (map move (filter is_move (count_from (suc a) k)))
      go true = refl
      go false = refl

  one_other : (signs : List ℤ) (a p : ℕ) → p ≢ a → get_or (one signs a) p (pos 0) ≡ get_or signs p (pos 0)
  unfolding one
  one_other signs a p d = go (is_move a)
    where
      go : (b : Bool) → get_or (cond b (set signs a (at a)) signs) p (pos 0) ≡ get_or signs p (pos 0)
      go true = get_or-set_other signs a p (at a) (pos 0) d
      go false = refl

  one_here : (signs : List ℤ) (a : ℕ) → a < length signs → get_or signs a (pos 0) ≡ pos 0 → get_or (one signs a) a (pos 0) ≡ at a
  unfolding one is_move at
  one_here signs a l zero_there = go (int_eq (get_or ch a (pos 0)) (pos 0)) refl
    where
      go : (b : Bool) → int_eq (get_or ch a (pos 0)) (pos 0) ≡ b → get_or (cond (not b) (set signs a (get_or ch a (pos 0))) signs) a (pos 0) ≡ get_or ch a (pos 0)
      go true e = zero_there ∙ sym ((Decides-int_eq (get_or ch a (pos 0)) (pos 0)).0 e)
      go false e = get_or-set_same signs a (get_or ch a (pos 0)) (pos 0) l

  one_long : (signs : List ℤ) (a : ℕ) → length (one signs a) ≡ length signs
  unfolding one
  one_long signs a = go (is_move a)
    where
      go : (b : Bool) → length (cond b (set signs a (at a)) signs) ≡ length signs
      go true = length-set signs a (at a)
      go false = refl

  -- what stands before the places stays
  before : (signs : List ℤ) (a k p : ℕ) → p < a → get_or (spread signs a k) p (pos 0) ≡ get_or signs p (pos 0)
  unfolding spread
  before signs a zero p l = refl
  before signs a (suc k) p l =
      let apart : p ≢ a = omega arith in
      ap (λ (s : List ℤ). get_or s p (pos 0)) (next signs a k) ∙ before (one signs a) (suc a) k p (omega (arith, l)) ∙ one_other signs a p apart

  -- at each of the places stands its change
  here : (signs : List ℤ) (a k p : ℕ) → a ≤ p → p < a + k → a + k ≤ length signs → get_or signs p (pos 0) ≡ pos 0 → get_or (spread signs a k) p (pos 0) ≡ at p
  here signs a zero p l h long zero_there = absurd (omega (arith, l, h))
  here signs a (suc k) p l h long zero_there = ap (λ (s : List ℤ). get_or s p (pos 0)) (next signs a k) ∙ go (same_or_above p a l) (λ above. here (one signs a) (suc a) k p above (omega (arith, h)) (omega (arith, long, one_long signs a)) (one_other signs a p (omega (arith, above)) ∙ zero_there))
    where
      go : (a ≡ p) ⊎ (suc a ≤ p) → (suc a ≤ p → get_or (spread (one signs a) (suc a) k) p (pos 0) ≡ at p) → get_or (spread (one signs a) (suc a) k) p (pos 0) ≡ at p
      go (inl e) later = before (one signs a) (suc a) k p (omega (arith, e)) ∙ subst (λ q. get_or (one signs a) q (pos 0) ≡ at q) e (one_here signs a (omega (arith, l, h, long)) (subst (λ q. get_or signs q (pos 0) ≡ pos 0) (sym e) zero_there))
      go (inr above) later = later above

pub moves_are_changes : MovesAreChanges
unfolding spread move is_move at
moves_are_changes g ch long =
    let n = length g.shape.points in
    ext_get_or (pos 0) (signs_of n (moves g ch)) ch (signs_long n (moves g ch) ∙ sym long)
    (λ p l. here ch (replicate n (pos 0)) 0 n p (omega arith) (let size = signs_long n (moves g ch) in omega (arith, l, size)) (let size = length-replicate n (pos 0) in omega (arith, size)) (let size = signs_long n (moves g ch) in get_or-replicate n p (pos 0) (pos 0) (omega (arith, l, size))))

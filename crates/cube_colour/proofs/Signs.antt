-- The signs beside a free place are those by walks.
use Rattle.std.proofs.Common.{◌≡◌, ◌≢◌, ℕ, ◌+◌, ◌*◌, ◌<◌, inl, inr, Bool, true, false, List, [], ◌∷◌, ◌++◌, map, ℤ, pos, refl, sym, ap, ap₂, ◌∙◌, arith, ⊎_elim}
use Rattle.std.proofs.lemmas.Bool.{cases_eq, not-true}
use Rattle.std.proofs.lemmas.List.{map-append}
use Rattle.cube_model.specs.declared.link.Link.{Link}
use Rattle.cube_model.specs.declared.link.Link.TheVariants.{Pair}
use Rattle.cube_model.specs.Cubes.{IsIn, count_from}
use Rattle.cube_model.specs.Links.{is_free, pairs_among}
use Rattle.cube_model.specs.LinkLaws.{entry, SuitsAll, AreOfPlaces, ends, is_fixed as is_fixed_by_walks}
use Rattle.cube_model.specs.Twins.{by_walks}
use Rattle.cube_model.proofs.DimsFacts.{count_from-more}
use Rattle.cube_model.proofs.FixedPlaces.{walks_in, at_start, free_is_not_fixed, one_not_zero}
use Rattle.cube_model.proofs.LinkFacts.{suiting_is}
use Rattle.cube_model.proofs.Members.{IsIn-count_from}
use Rattle.cube_model.proofs.Parities.{at_place, pair_from}
use Rattle.cube_model.proofs.Walks.{unreached}
use Rattle.cube_colour.specs.Forests.{Labels, is_fixed, turned, Holds, AreLabels, sign_beside}
use Rattle.cube_colour.proofs.Components.{signs, sign_entry, signs_hold, sign_here, sign_elsewhere, free_labels}

pub map_same : (f g : ℕ → ℤ) (xs : List ℕ) → ((x : ℕ) → IsIn x xs → f x ≡ g x) → map f xs ≡ map g xs
map_same f g [] h = refl
map_same f g (x ∷ xs) h = ap₂ (λ (y : ℤ) (ys : List ℤ). y ∷ ys) (h x (inl refl)) (map_same f g xs (λ y k. h y (inr k)))

pub sign_more : (f : ℕ → ℤ) (made new : List ℤ) (k : ℕ) → made ≡ map f (count_from 0 k) → new ≡ made ++ f k ∷ [] → new ≡ map f (count_from 0 (k + 1))
sign_more f made new k is more =
    let e : 0 + k ≡ k = omega arith in
    let counted : count_from 0 (k + 1) ≡ count_from 0 k ++ k ∷ [] = rw e at (count_from-more 0 k) in
    more ∙ ap (λ (ys : List ℤ). ys ++ f k ∷ []) is ∙ sym (ap (map f) counted ∙ map-append f (count_from 0 k) (k ∷ []))

module _ (n : ℕ) (kept : List Link) (l : Labels) (are : AreLabels n kept l) (of_places : AreOfPlaces n kept) (from : ℕ) (below : from < n) (free : is_free n kept from ≡ true) where
  not_fixed : is_fixed_by_walks n kept from ≡ false
  not_fixed = not-true (is_fixed_by_walks n kept from) (sym (free_is_not_fixed n kept from of_places below) ∙ free)

  open_root : l.fixed (l.root from) ≡ false
  open_root = not-true (is_fixed l from) (sym (free_labels n kept l are from below) ∙ free)

  by_walk : List ℤ
  by_walk = map (by_walks (ends n kept from)) (count_from 0 n)

  walks_hold : Holds n l by_walk
  unfolding by_walk
  walks_hold = (are.suits by_walk).0 ((suiting_is n kept by_walk).0 (walks_in n kept from of_places below not_fixed))

  walk_at : (i : ℕ) → i < n → entry by_walk i ≡ by_walks (ends n kept from) i
  unfolding by_walk
  walk_at i li = at_place (by_walks (ends n kept from)) n i li

  -- the entry at the root
  root_entry : entry by_walk (l.root from) ≡ turned (l.opposite from) (pos 1)
  root_entry = back (l.opposite from) (entry by_walk (l.root from)) (sym (walks_hold.tied from below) ∙ walk_at from below ∙ at_start n kept from of_places below)
    where
      back : (b : Bool) (x : ℤ) → turned b x ≡ pos 1 → x ≡ turned b (pos 1)
      back true x e = omega (arith, Rattle.std.proofs.lemmas.Int.ints)
      back false x e = e

  beside : List ℤ
  beside = signs n l (l.root from) (l.opposite from)

  beside_suits : SuitsAll n kept beside
  unfolding beside
  beside_suits = (are.suits beside).1 (signs_hold n kept l are (l.root from) (l.opposite from) open_root)

  beside_at : (i : ℕ) → i < n → entry beside i ≡ sign_beside l (l.root from) (l.opposite from) i
  unfolding beside
  beside_at i li = sign_entry n l (l.root from) (l.opposite from) i li

  -- the place itself has +1
  beside_start : entry beside from ≡ pos 1
  beside_start = beside_at from below ∙ sign_here l (l.root from) (l.opposite from) from refl ∙ twice (l.opposite from)
    where
      twice : (b : Bool) → turned b (turned b (pos 1)) ≡ pos 1
      twice true = refl
      twice false = refl

  sign_is : (i : ℕ) → i < n → sign_beside l (l.root from) (l.opposite from) i ≡ by_walks (ends n kept from) i
  sign_is i li = ⊎_elim
      (λ (e : l.root i ≡ l.root from). sign_here l (l.root from) (l.opposite from) i e ∙ sym (sym (walk_at i li) ∙ walks_hold.tied i li ∙ ap (turned (l.opposite i)) (ap (entry by_walk) e ∙ root_entry)))
      (λ (e : l.root i ≢ l.root from). sign_elsewhere l (l.root from) (l.opposite from) i e
      ∙ sym (unreached n (pairs_among kept) (entry beside) from (2 * n) i (λ x k. beside_suits.all (Pair x.0 x.1) (pair_from kept x k)) (λ z. one_not_zero (sym beside_start ∙ z)) (beside_at i li ∙ sign_elsewhere l (l.root from) (l.opposite from) i e)))
      (cases_eq (l.root i) (l.root from))

  pub signs_are : map (sign_beside l (l.root from) (l.opposite from)) (count_from 0 n) ≡ map (by_walks (ends n kept from)) (count_from 0 n)
  signs_are = map_same (sign_beside l (l.root from) (l.opposite from)) (by_walks (ends n kept from)) (count_from 0 n) (λ i k. let b : i < 0 + n = (IsIn-count_from i 0 n k).1 in sign_is i (omega (arith, b)))

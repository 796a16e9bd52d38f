-- The facts of a row are those of its cell.
use Rattle.std.specs.List.{list_any}
use Rattle.std.proofs.Common.{◌≡◌, ℕ, zero, suc, ◌+◌, Bool, true, false, ◌&&◌, ◌||◌, List, [], ◌∷◌, map, filter, sum, get_or, Option, Some, None, ℤ, pos, negsuc, ◌+ℤ◌, refl, sym, ap, ap₂, ◌∙◌, ltb}
use Rattle.std.proofs.lemmas.List.Sums.{sum_by-cons}
use Rattle.cube_model.specs.declared.cell.Cell.{Cell}
use Rattle.cube_model.specs.declared.policy.Object.{Object}
use Rattle.cube_model.specs.Cubes.{Public, key_at, covers, covered, places}
use Rattle.cube_model.specs.Protection.{in_slice, has_fewer, guards}
use Rattle.cube_model.specs.Requests.{total}
use Rattle.cube_model.proofs.Members.{IsIn-filter, same_eq}
use Rattle.cube_model.proofs.Walks.{any_alike}
use Rattle.cube_source.specs.Few.{facts_at, are_few, guards_row}

abbrev pub cell : List ℕ → List ℕ → Cell
cell c key = record { levels = c; key = key }

entry_pos : (xs : List ℕ) (i : ℕ) → get_or (map pos xs) i (pos 0) ≡ pos (get_or xs i 0)
entry_pos [] zero = refl
entry_pos [] (suc i) = refl
entry_pos (x ∷ xs) zero = refl
entry_pos (x ∷ xs) (suc i) = entry_pos xs i

pub sum_cons : (x : ℕ) (xs : List ℕ) → sum (x ∷ xs) ≡ x + sum xs
sum_cons x xs = sum_by-cons (λ n. n) x xs

total_is : (facts is : List ℕ) → total (map pos facts) is ≡ pos (sum (map (λ i. get_or facts i 0) is))
total_is facts [] = refl
total_is facts (i ∷ is) = ap₂ (λ (a b : ℤ). a +ℤ b) (entry_pos facts i) (total_is facts is) ∙ ap pos (sym (sum_cons (get_or facts i 0) (map (λ j. get_or facts j 0) is)))

size_of : ℤ → ℕ
size_of (pos n) = n
size_of (negsuc n) = 0

-- a number that counts facts as an integer
pub counted : (g : Public) (is : List ℕ) (n : ℕ) → pos n ≡ total (map pos g.shape.facts) is → n ≡ facts_at g is
unfolding size_of
counted g is n e = ap size_of (e ∙ total_is g.shape.facts is)

pub few_some : (g : Public) (fewer : Option ℕ) (most n : ℕ) (is : List ℕ) → fewer ≡ Some most → n ≡ facts_at g is → ltb n most ≡ are_few g fewer is
few_some g fewer most n is e h = ap (λ (k : ℕ). ltb k most) h ∙ sym (ap (λ (f : Option ℕ). are_few g f is) e)

pub few_none : (g : Public) (fewer : Option ℕ) (is : List ℕ) → fewer ≡ None → true ≡ are_few g fewer is
few_none g fewer is e = sym (ap (λ (f : Option ℕ). are_few g f is) e)

-- the facts of a cell are those of the places that it covers
pub few_cell : (g : Public) (fewer : Option ℕ) (t : Cell) → are_few g fewer (covered g t) ≡ has_fewer g fewer t
few_cell g None t = refl
few_cell g (Some n) t = refl

and_with : {X : Type 0} (p : X → Bool) (b : Bool) (xs : List X) → list_any (λ x. p x && b) xs ≡ (list_any p xs && b)
and_with p b [] = refl
and_with p b (x ∷ xs) = ap (λ (z : Bool). (p x && b) || z) (and_with p b xs) ∙ joined (p x) (list_any p xs) b
  where
    joined : (a r b : Bool) → ((a && b) || (r && b)) ≡ ((a || r) && b)
    joined true r true = refl
    joined true true false = refl
    joined true false false = refl
    joined false r b = refl

-- an object guards a row where it guards one of the places at the cuboid
pub row_guarded : (g : Public) (o : Object) (c key : List ℕ) → guards_row g o (filter (covers g (cell c key)) (places g)) ≡ list_any (guards g o c) (filter (covers g (cell c key)) (places g))
row_guarded g o c key =
    ap (λ (b : Bool). list_any (in_slice g o) (covered g (cell c key)) && b) (few_cell g o.fewer (cell c key))
    ∙ sym (and_with (in_slice g o) (has_fewer g o.fewer (cell c key)) (covered g (cell c key)))
    ∙ any_alike (λ i. in_slice g o i && has_fewer g o.fewer (cell c key)) (guards g o c) (covered g (cell c key)) (λ i m.
    ap (λ (k : List ℕ). in_slice g o i && has_fewer g o.fewer (cell c k)) (sym (same_eq (key_at g c i) key (IsIn-filter (covers g (cell c key)) i (places g) m).0)))

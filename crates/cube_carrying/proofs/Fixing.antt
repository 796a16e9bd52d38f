-- The first guarded place that links fix.
use Rattle.std.specs.List.{All, position_or_len, slice_get}
use Rattle.std.specs.Option.{option_map}
use Rattle.std.proofs.Common.{◌≡◌, ℕ, ◌<◌, ◌≤◌, Bool, true, false, cond, not, ltb, List, length, map, find, position, get_or, Some, None, ℤ, refl, sym, ap, ◌∙◌, subst, arith}
use Rattle.std.proofs.lemmas.Bool.{ltb-false}
use Rattle.std.proofs.lemmas.List.{get_or-map, length-map}
use Rattle.std.proofs.lemmas.List.Folds.{find_at}
use Rattle.std.proofs.lemmas.List.Quantifiers.{position-Some}
use Rattle.std.proofs.lemmas.Option.{slice_get-get_or, slice_get_past}
use Rattle.cube_model.specs.declared.cell.Cell.{Cell}
use Rattle.cube_model.specs.declared.link.Link.{Link}
use Rattle.cube_model.specs.declared.policy.Method.TheVariants.{Parity}
use Rattle.cube_model.specs.Cubes.{Public, places}
use Rattle.cube_model.specs.Links.{suiting, is_free, basis}
use Rattle.cube_model.specs.Protection.{method, core_cell, guarded, is_guarded, objects_of, protected, protected_by}
use Rattle.cube_model.specs.Verdicts.{fixed_by}
use Rattle.cube_model.proofs.Alike.{suiting_alike}
use Rattle.cube_model.proofs.LinkFacts.{basis_suits}
use Rattle.cube_model.proofs.Parities.{guarded_below}
use Rattle.cube_model.proofs.Parts.{position-is}
use Rattle.cube_model.proofs.Sums.{length-count_from}
use Rattle.cube_source.proofs.Growing.{filter_fewer}
use Rattle.cube_colour.proofs.History.{All-from}

find_nowhere : {X : Type 0} (p : X → Bool) (xs : List X) → position p xs ≡ None → find p xs ≡ None
find_nowhere p xs e = find_at p xs ∙ slice_get_past xs (position_or_len p xs) (past (ltb (position_or_len p xs) (length xs)) refl e)
  where
    past : (b : Bool) → ltb (position_or_len p xs) (length xs) ≡ b → cond b (Some (position_or_len p xs)) None ≡ None → length xs ≤ position_or_len p xs
    past true q h = absurd (cc)
    past false q h = ltb-false (position_or_len p xs) (length xs) q

find_there : {X : Type 0} (p : X → Bool) (xs : List X) (n : ℕ) (d : X) → position p xs ≡ Some n → find p xs ≡ Some (get_or xs n d)
find_there p xs n d e =
    let l = (position-Some p xs n d e).0 in
    find_at p xs ∙ ap (slice_get xs) (sym (position-is p xs n e)) ∙ slice_get-get_or xs n d l

suiting_basis : (n : ℕ) (ls : List Link) → suiting n (basis n ls) ≡ suiting n ls
suiting_basis n ls = suiting_alike n ls (basis n ls) (basis_suits n ls)

-- the place is not free from the basis of the links
abbrev pub is_fixed : ℕ → List Link → ℕ → Bool
is_fixed n ls i = not (is_free n (basis n ls) i)

fixed_find : (n : ℕ) (ls : List Link) (is : List ℕ) → fixed_by (suiting n ls) is ≡ find (is_fixed n ls) is
fixed_find n ls is = ap (λ (lists : List (List ℤ)). fixed_by lists is) (sym (suiting_basis n ls))

pub none_fixed : (g : Public) (n : ℕ) (ls : List Link) (is : List ℕ) → None ≡ position (is_fixed n ls) is → None ≡ option_map (core_cell g) (fixed_by (suiting n ls) is)
none_fixed g n ls is e = sym (ap (option_map (core_cell g)) (fixed_find n ls is ∙ find_nowhere (is_fixed n ls) is (sym e)))

parity_cells : (g : Public) (m : ℕ) → method g m ≡ Parity → protected g m ≡ map (core_cell g) (guarded g m)
unfolding protected
parity_cells g m way = ap (λ w. protected_by w g m) way

pub fixed_is : (g : Public) (m n : ℕ) (ls : List Link) (k : ℕ) (t : Cell) → method g m ≡ Parity → Some k ≡ position (is_fixed n ls) (guarded g m) → t ≡ get_or (protected g m) k t
    → Some t ≡ option_map (core_cell g) (fixed_by (suiting n ls) (guarded g m))
fixed_is g m n ls k t way e is =
    let l = (position-Some (is_fixed n ls) (guarded g m) k 0 (sym e)).0 in
    ap Some (is ∙ ap (λ (ts : List Cell). get_or ts k t) (parity_cells g m way) ∙ get_or-map (core_cell g) (guarded g m) k 0 t l)
    ∙ sym (ap (option_map (core_cell g)) (fixed_find n ls (guarded g m) ∙ find_there (is_fixed n ls) (guarded g m) k 0 (sym e)))

pub fixed_below : (g : Public) (m n : ℕ) (ls : List Link) (k : ℕ) → method g m ≡ Parity → Some k ≡ position (is_fixed n ls) (guarded g m) → k < length (protected g m)
fixed_below g m n ls k way e =
    let l = (position-Some (is_fixed n ls) (guarded g m) k 0 (sym e)).0 in
    let long = ap length (parity_cells g m way) in
    let same = length-map (guarded g m) (core_cell g) in
    omega (arith, l, long, same)

pub fixed_place : (g : Public) (m n : ℕ) (ls : List Link) (k : ℕ) → Some k ≡ position (is_fixed n ls) (guarded g m) → k < length g.shape.points
fixed_place g m n ls k e =
    let l = (position-Some (is_fixed n ls) (guarded g m) k 0 (sym e)).0 in
    let fewer = filter_fewer (is_guarded g (objects_of g m)) (places g) in
    let all = length-count_from 0 (length g.shape.points) in
    omega (arith, l, fewer, all)

pub guarded_within : (g : Public) (m n : ℕ) (is : List ℕ) → is ≡ guarded g m → n ≡ length g.shape.points → All (λ i. i < n) is
guarded_within g m n is same size = subst (λ (js : List ℕ). All (λ i. i < n) js) (sym same) (All-from (λ i. i < n) (guarded g m) (λ i h. let b = guarded_below g m i h in omega (arith, b, size)))

-- Points and the numbers of their ancestors.
use Rattle.std.specs.List.{AllByRecursion}
use Rattle.std.proofs.Common.{◌≡◌, ℕ, zero, suc, ◌<◌, ◌≤◌, ◌⊎◌, inl, inr, List, [], ◌∷◌, length, map, get_or, refl, sym, ap, ◌∙◌, subst, arith}
use Rattle.std.proofs.lemmas.List.{get_or_read}
use Rattle.cube_model.specs.Cubes.{up, names_at, Each, IsPoint}
use Rattle.cube_model.specs.Cores.{Core}
use Rattle.cube_model.specs.Dims.{NamedDimension, plain, plains, members, no_dimension, IsDimension}
use Rattle.cube_model.proofs.DimsFacts.{up-named, up-all, number_below, length-distinct, length-names_at}
use Rattle.cube_model.proofs.Sources.{Each-get_or}

-- a point has a leaf for each dimension
pub length-point : (ds : List NamedDimension) (xs : List ℕ) → IsPoint (map plain ds) xs → length xs ≡ length ds
length-point [] [] h = refl
length-point [] (x ∷ xs) h = absurd h
length-point (d ∷ ds) [] h = absurd h
length-point (d ∷ ds) (x ∷ xs) h = ap suc (length-point ds xs h.1)

-- and each is one of the dimension's
pub leaf_below : (ds : List NamedDimension) (xs : List ℕ) (k : ℕ) → IsPoint (map plain ds) xs → k < length ds → get_or xs k 0 < length (get_or ds k no_dimension).paths
leaf_below [] xs k h l = absurd (omega (arith, l))
leaf_below (d ∷ ds) [] k h l = absurd h
leaf_below (d ∷ ds) (x ∷ xs) zero h l = h.0
leaf_below (d ∷ ds) (x ∷ xs) (suc k) h l = leaf_below ds xs k h.1 (omega (arith, l))

pub dimension_of : (ds : List NamedDimension) (k : ℕ) → AllByRecursion IsDimension ds → k < length ds → IsDimension (get_or ds k no_dimension)
dimension_of [] k h l = absurd (omega (arith, l))
dimension_of (d ∷ ds) zero h l = h.0
dimension_of (d ∷ ds) (suc k) h l = dimension_of ds k h.1 (omega (arith, l))

-- the number of an ancestor needs 16 bits
pub up_small : (d : NamedDimension) (l x : ℕ) → IsDimension d → x < length d.paths → up (plain d) l x < 65536
up_small d l x h k = go (below l (length d.levels))
  where
    below : (a b : ℕ) → (a < b) ⊎ (b ≤ a)
    below a b = grind arith

    go : (l < length d.levels) ⊎ (length d.levels ≤ l) → up (plain d) l x < 65536
    go (inl low) =
        let e = up-named d l x h.distinct_leaves low k in
        let names = length-names_at d l in
        let n = number_below (names_at (plain d) l) x (omega (arith, names, k)) in
        let few = length-distinct (names_at (plain d) l) in
        let most = h.few_leaves in
        omega (arith, e, n, few, names, most)
    go (inr high) = let e = up-all d l x high in omega (arith, e)

-- a member is there for each leaf
pub up_there : (d : NamedDimension) (l x : ℕ) → IsDimension d → l < length d.levels → x < length d.paths → up (plain d) l x < length (members d l)
up_there d l x h low k =
    let e = up-named d l x h.distinct_leaves low k in
    let names = length-names_at d l in
    let n = number_below (names_at (plain d) l) x (omega (arith, names, k)) in
    omega (arith, e, n)

-- what is read at a place is its point
pub point_read : (core : Core) (place : ℕ) (points : List (List ℕ)) (point xs : List ℕ) → Each (IsPoint (plains core.dims)) core.shape.points → place < length core.shape.points → points ≡ core.shape.points → point ≡ get_or points place point → xs ≡ point
    → IsPoint (plains core.dims) xs × (xs ≡ get_or core.shape.points place [])
point_read core place points point xs ok l es e f =
    let size = ap length es in
    let here : xs ≡ get_or core.shape.points place [] = f ∙ get_or_read points place point (omega (arith, size, l)) e [] ∙ ap (λ (ps : List (List ℕ)). get_or ps place []) es in
    (subst (IsPoint (plains core.dims)) (sym here) (Each-get_or (IsPoint (plains core.dims)) core.shape.points place [] ok l), here)

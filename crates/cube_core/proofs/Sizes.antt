-- How many members the grouping levels have, dimension by dimension.
use Rattle.std.specs.List.{AllByRecursion}
use Rattle.std.proofs.Common.{◌≡◌, ℕ, suc, ◌+◌, ◌<◌, ◌≤◌, ◌⊎◌, inl, inr, false, List, [], ◌∷◌, ◌++◌, length, map, drop, get_or, refl, ap, arith, ltb}
use Rattle.std.proofs.lemmas.Bool.{lt-ltb}
use Rattle.std.proofs.lemmas.Bool.Decides.{nat_tests}
use Rattle.std.proofs.lemmas.List.{drop_more, drop_all, append-nil, append_assoc}
use Rattle.cube_model.specs.Cubes.{up, ancestors, IsPoint}
use Rattle.cube_model.specs.Dims.{NamedDimension, plain, no_dimension, IsDimension}
use Rattle.cube_model.proofs.DimsFacts.{up-all}
use Rattle.cube_core.specs.Keys.{level_size, level_sizes}
use Rattle.cube_core.proofs.Points.{up_there}
use Rattle.cube_core.proofs.Ranking.{IsWithin}

pub sizes_long : (ds : List NamedDimension) (ls : List ℕ) → length ls ≡ length ds → length (level_sizes (map plain ds) ls) ≡ length ds
sizes_long [] ls e = refl
sizes_long (d ∷ ds) [] e = absurd (omega (arith, e))
sizes_long (d ∷ ds) (l ∷ ls) e = ap suc (sizes_long ds ls (omega (arith, e)))

-- one dimension more
pub sizes_more : (ds : List NamedDimension) (ls sizes : List ℕ) (i : ℕ) → i < length ds → i < length ls
    → (sizes ++ level_size (plain (get_or ds i no_dimension)) (get_or ls i 0) ∷ []) ++ level_sizes (map plain (drop (i + 1) ds)) (drop (i + 1) ls) ≡ sizes ++ level_sizes (map plain (drop i ds)) (drop i ls)
sizes_more ds ls sizes i a b = rw (drop_more ds i no_dimension a, drop_more ls i 0 b) (append_assoc sizes (level_size (plain (get_or ds i no_dimension)) (get_or ls i 0) ∷ []) (level_sizes (map plain (drop (i + 1) ds)) (drop (i + 1) ls)))

pub sizes_end : (ds : List NamedDimension) (ls sizes : List ℕ) (i : ℕ) → length ds ≤ i → sizes ++ level_sizes (map plain (drop i ds)) (drop i ls) ≡ sizes
sizes_end ds ls sizes i a = rw (drop_all i ds a) (append-nil sizes)

-- the ancestor of a leaf is a member of its level
up_within : (d : NamedDimension) (l x : ℕ) → IsDimension d → x < length d.paths → up (plain d) l x < level_size (plain d) l
up_within d l x h k = go (below l (length d.levels))
  where
    below : (a b : ℕ) → (a < b) ⊎ (b ≤ a)
    below a b = grind arith

    not_below : (a b : ℕ) → b ≤ a → ltb a b ≡ false
    not_below a b m = grind (arith, nat_tests)

    go : (l < length d.levels) ⊎ (length d.levels ≤ l) → up (plain d) l x < level_size (plain d) l
    go (inl low) = rw (lt-ltb l (length d.levels) low) (up_there d l x h low k)
    go (inr high) = let e = up-all d l x high in rw (not_below l (length d.levels) high) (omega (arith, e))

-- and the key of a point has one of each level
pub ancestors_within : (ds : List NamedDimension) (ls xs : List ℕ) → AllByRecursion IsDimension ds → length ls ≡ length ds → IsPoint (map plain ds) xs → IsWithin (level_sizes (map plain ds) ls) (ancestors (map plain ds) ls xs)
ancestors_within [] ls [] h e p = tt
ancestors_within [] ls (x ∷ xs) h e p = absurd p
ancestors_within (d ∷ ds) ls [] h e p = absurd p
ancestors_within (d ∷ ds) [] (x ∷ xs) h e p = absurd (omega (arith, e))
ancestors_within (d ∷ ds) (l ∷ ls) (x ∷ xs) h e p = (up_within d l x h.0 p.0, ancestors_within ds ls xs h.1 (omega (arith, e)) p.1)

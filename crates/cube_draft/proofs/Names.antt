-- Names that stand among others.
use Rattle.std.proofs.Common.{◌≡◌, ◌<◌, ℕ, List, length, true, arith}
use Rattle.std.specs.List.{list_any}
use Rattle.std.specs.Str.{bytes_eq}
use Rattle.cube_model.specs.Cubes.{place_of}
use Rattle.cube_model.proofs.Members.{tested}
use Rattle.cube_model.proofs.DimsFacts.{place_of-absent}

-- a name whose place is one of theirs
pub stands : (x : List ℕ) (xs : List (List ℕ)) → place_of x xs < length xs → list_any (bytes_eq x) xs ≡ true
stands x xs l = tested (list_any (bytes_eq x) xs) (λ t. t) (λ f. let at = place_of-absent x xs f in absurd (omega (arith, at, l)))

-- The leaf of a name that stands in its place.
use Rattle.std.proofs.Common.{◌≡◌, ℕ, ◌<◌, List, [], length, get_or, Some, ap}
use Rattle.cube_model.specs.Cubes.{distinct, names_at}
use Rattle.cube_model.specs.Dims.{NamedDimension, plain, IsDimension}
use Rattle.cube_model.proofs.Found.{found_in}
use Rattle.cube_facts.specs.FactFile.{leaf_of}

pub found_there : (d : NamedDimension) (k : ℕ) (name : List ℕ) → IsDimension d → k < length (distinct (names_at (plain d) 0)) → get_or (distinct (names_at (plain d) 0)) k [] ≡ name → leaf_of d name ≡ Some k
found_there d k name h l e = found_in (distinct (names_at (plain d) 0)) k name (ap distinct h.distinct_leaves) l e

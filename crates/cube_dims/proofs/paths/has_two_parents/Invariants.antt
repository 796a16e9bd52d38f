use Rattle.std.proofs.Common.{◌≡◌, ℕ, suc, ◌<◌, [], get_or}
use Rattle.cube_model.specs.Cubes.{names_at, place_of}
use Rattle.cube_model.specs.Dims.{plain}
use Rattle.cube_dims.proofs.paths.has_two_parents.Given as goal

abbrev pub invariant-loop-level : goal.invariant-loop-level
invariant-loop-level l = (k : ℕ) → suc k < l.level → get_or (names_at (plain l.parts) (suc k)) l.leaf [] ≡ get_or (names_at (plain l.parts) (suc k)) (place_of (get_or (names_at (plain l.parts) k) l.leaf []) (names_at (plain l.parts) k)) []

use Rattle.std.proofs.Common.{◌≡◌, ◌∷◌, map}
use Rattle.std.specs.List.{flat_map}
use Rattle.cube_model.specs.Cubes.{count_from}
use Rattle.cube_lattice.proofs.below.with_levels.Given as goal

abbrev pub invariant-firsts : goal.invariant-firsts
invariant-firsts l = l.all ≡ flat_map (λ first. map (λ others. first ∷ others) l.cuboids) (count_from 0 l.first)

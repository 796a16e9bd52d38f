use Rattle.std.proofs.Common.{◌≡◌, ◌∷◌, ◌++◌, map, take}
use Rattle.cube_lattice.proofs.below.push_all.Given as goal

abbrev pub invariant-cuboids : goal.invariant-cuboids
invariant-cuboids l = l.list ≡ l.initial.list ++ map (λ others. l.first ∷ others) (take l.others-index l.cuboids)

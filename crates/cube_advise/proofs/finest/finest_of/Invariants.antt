use Rattle.std.proofs.Common.{◌≡◌, not, filter, take}
use Rattle.cube_model.specs.Safe.{has_finer}
use Rattle.cube_advise.proofs.finest.finest_of.Given as goal

abbrev pub invariant-cuboids : goal.invariant-cuboids
invariant-cuboids l = record {
  listed : l.finest ≡ filter (λ c. not (has_finer l.cuboids c)) (take l.levels-index l.cuboids);
}

use Rattle.std.proofs.Common.{◌≡◌}
use Rattle.trial_cubes.proofs.colourings.a_pair_that_follows_is_not_kept.Given as goal

abbrev pub invariant-pairs : goal.invariant-pairs
invariant-pairs g l = l.colouring.places ≡ 65536

abbrev pub invariant-turns : goal.invariant-turns
invariant-turns g l = l.colouring.places ≡ 65536

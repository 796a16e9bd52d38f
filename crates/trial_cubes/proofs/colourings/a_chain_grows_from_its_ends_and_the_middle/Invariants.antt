use Rattle.std.proofs.Common.{◌≡◌}
use Rattle.trial_cubes.proofs.colourings.a_chain_grows_from_its_ends_and_the_middle.Given as goal

abbrev pub invariant-steps : goal.invariant-steps
invariant-steps g l = l.colouring.places ≡ 65536

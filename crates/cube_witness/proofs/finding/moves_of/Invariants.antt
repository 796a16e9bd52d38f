use Rattle.std.proofs.Common.{◌≡◌}
use Rattle.cube_witness.specs.Grounds.{moves_in}
use Rattle.cube_witness.proofs.finding.moves_of.Given as goal

abbrev pub invariant-signs : goal.invariant-signs
invariant-signs l = l.made ≡ moves_in l.signs l.place

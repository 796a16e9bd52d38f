use Rattle.std.proofs.Common.{◌≡◌, drop, [], false}
use Rattle.cube_text.specs.Quoting.{closing}
use Rattle.cube_text.proofs.names.read_quoted.Given as goal

abbrev pub invariant-loop-at : goal.invariant-loop-at
invariant-loop-at l = closing l.marked l.name (drop l.at l.text) ≡ closing false [] l.text

use Rattle.std.proofs.Common.{take}
use Rattle.cube_reason.specs.Found.{AreSingles}
use Rattle.cube_reason.proofs.finding.singles_of.Given as goal

abbrev pub invariant-ties : goal.invariant-ties
invariant-ties l = AreSingles l.many (take l.tie-index l.ties) l.singles.items

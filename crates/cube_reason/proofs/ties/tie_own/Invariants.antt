use Rattle.cube_reason.specs.Tied.{OwnTied}
use Rattle.cube_reason.proofs.ties.tie_own.Given as goal

abbrev pub invariant-links : goal.invariant-links
invariant-links l = OwnTied l.links l.index l.initial.ties.items l.ties.items

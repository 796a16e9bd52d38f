use Rattle.std.proofs.Common.{length}
use Rattle.cube_draft.proofs.kept.+stand_first.Given as goal

abbrev pub decreases-stand_first : goal.decreases-stand_first
decreases-stand_first l = length l.stated.now

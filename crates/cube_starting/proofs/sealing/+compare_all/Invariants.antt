use Rattle.std.proofs.Common.{length}
use Rattle.cube_starting.proofs.sealing.+compare_all.Given as goal

abbrev pub decreases-compare_all : goal.decreases-compare_all
decreases-compare_all g l = length l.called.now

use Rattle.std.proofs.Common.{length}
use Rattle.cube_starting.proofs.sealing.+hold_all.Given as goal

abbrev pub decreases-hold_all : goal.decreases-hold_all
decreases-hold_all g l = length l.called.now

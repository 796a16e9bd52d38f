use Rattle.std.proofs.Common.{length, ◌-◌}
use Rattle.cube_words.proofs.words.+first_wrong.Given as goal

abbrev pub decreases-first_wrong : goal.decreases-first_wrong
decreases-first_wrong l = length l.words.now - l.at

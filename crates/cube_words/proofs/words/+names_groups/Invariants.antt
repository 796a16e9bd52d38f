use Rattle.std.proofs.Common.{length}
use Rattle.cube_words.proofs.words.+names_groups.Given as goal

abbrev pub decreases-names_groups : goal.decreases-names_groups
decreases-names_groups l = length l.words.now

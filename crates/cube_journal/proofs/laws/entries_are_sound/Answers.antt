use Rattle.cube_journal.proofs.Longer as longer
use Rattle.cube_journal.proofs.laws.entries_are_sound.Goals as goal

pub returns : goal.returns
returns c = longer.entries_are_sound

use Rattle.std.proofs.Common.{◌≡◌, ◌++◌, drop, flat_map}
use Rattle.cube_words.specs.Help.{note_of}
use Rattle.cube_words.proofs.helping.push_notes.Given as goal

abbrev pub invariant-loop-setting : goal.invariant-loop-setting
invariant-loop-setting l = l.text ++ flat_map note_of (drop l.setting-index l.settings) ≡ l.fn.text ++ flat_map note_of l.settings

use Rattle.std.proofs.Common.{◌≡◌, ◌≤◌, ◌+◌, ◌-◌, length, drop}
use Rattle.cube_words.specs.Drafting.{nothing, said_from}
use Rattle.cube_words.proofs.drafting.read_words.Given as goal

abbrev pub invariant-words : goal.invariant-words
invariant-words l = (l.at ≤ length l.words) × (said_from l.begun (l.at + 1) (drop l.at l.words) ≡ said_from nothing 1 l.words)

abbrev pub decreases-words : goal.decreases-words
decreases-words l = length l.words - l.at

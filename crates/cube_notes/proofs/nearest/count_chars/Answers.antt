use Rattle.std.proofs.Common.{rules}
use Rattle.std.proofs.lemmas.Str.{chars_from_encodes}
use Rattle.cube_notes.proofs.nearest.count_chars.Goals as goal

-- src/nearest.rt
pub returns : goal.returns
returns c = search (rules, chars_from_encodes)

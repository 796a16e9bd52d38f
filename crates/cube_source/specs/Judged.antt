-- The verdict on a source cuboid.
use Rattle.std.specs.Prelude.{Option, Some, None}
use Rattle.cube_model.specs.declared.cell.Cell.{Cell}
use Rattle.cube_source.specs.declared.judging.Judged.{Judged}
use Rattle.cube_source.specs.declared.judging.Judged.TheVariants.{Safe, Uncut}

-- safe exactly where no protected cell is left uncut
abbrev pub judged_of : Option Cell → Judged
judged_of None = Safe
judged_of (Some t) = Uncut t

-- The made dimension file is read.
use Rattle.std.proofs.Common.{◌∙◌, ap}
use Rattle.cube_dims.specs.DimsFile as file
use Rattle.cube_dims.specs.DimsFile.{dims_of}
use Rattle.cube_tables.proofs.Turns.{accepted}
use Rattle.cube_made.specs.Laws.{DimsAreRead}
use Rattle.cube_made.proofs.DimsText.{dims_parse}
use Rattle.cube_made.proofs.DimsKept.{made_none, made_said}

pub dims_are_read : DimsAreRead
unfolding dims_of
dims_are_read s size = ap file.dims_said (dims_parse s size) ∙ accepted _ _ _ (made_none s size) (made_said s)

-- What a compacted history keeps that is told of a book.
use Rattle.cube_engine.specs.Books.{Book}
use Rattle.cube_engine.specs.Worlds.{IsRuled}
use Rattle.cube_engine.proofs.KeepsAll.{compaction_keeps_all}
use Rattle.cube_commands.specs.Cells.{KeepsIf}
use Rattle.cube_commands.specs.declared.cells.Telling.{Telling}
use Rattle.cube_commands.specs.declared.cells.Telling.TheVariants.{Changes, Twin, Compacted}

pub keeps_if : (what : Telling) (b : Book) → IsRuled b → KeepsIf what b.core b.policy b.history
keeps_if Changes b rules = tt
keeps_if Twin b rules = tt
keeps_if Compacted b rules = compaction_keeps_all b.core b.policy b.history rules.core rules.policy rules.admissible

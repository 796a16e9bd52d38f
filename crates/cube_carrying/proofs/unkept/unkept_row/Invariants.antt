use Rattle.std.proofs.Common.{◌≡◌, not, ◌&&◌, find, drop}
use Rattle.cube_source.specs.Blocks.{bare, row_cell}
use Rattle.cube_source.specs.Few.{guards_row}
use Rattle.cube_carrying.specs.KeptCells as said
use Rattle.cube_carrying.proofs.unkept.unkept_row.Given as goal

abbrev pub invariant-rows : goal.invariant-rows
invariant-rows l =
    find (λ row. guards_row (bare l.crossing.old.now) l.object row.places && not (said.is_kept l.crossing.old.now l.crossing.new.now l.crossing.new_policy.now l.crossing.measure (row_cell l.levels row))) (drop l.row-index l.rows)
    ≡ find (λ row. guards_row (bare l.crossing.old.now) l.object row.places && not (said.is_kept l.crossing.old.now l.crossing.new.now l.crossing.new_policy.now l.crossing.measure (row_cell l.levels row))) l.rows

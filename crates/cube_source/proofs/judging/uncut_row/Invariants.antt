use Rattle.std.specs.List.{list_any}
use Rattle.std.proofs.Common.{◌≡◌, false, not, ◌&&◌, find, drop, get_or}
use Rattle.cube_source.specs.Blocks.{bare}
use Rattle.cube_source.specs.Few.{guards_row}
use Rattle.cube_source.proofs.judging.uncut_row.Given as goal

abbrev pub invariant-rows : goal.invariant-rows
invariant-rows l =
    find (λ row. guards_row (bare l.core) l.object row.places && not (list_any (λ place. get_or l.mixed place false) row.places)) (drop l.row-index l.rows)
    ≡ find (λ row. guards_row (bare l.core) l.object row.places && not (list_any (λ place. get_or l.mixed place false) row.places)) l.rows

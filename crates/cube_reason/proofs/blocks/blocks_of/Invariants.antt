use Rattle.std.specs.List.{list_any}
use Rattle.std.proofs.Common.{◌≡◌, [], ◌++◌, map, filter, take}
use Rattle.cube_model.specs.Cubes.{covers}
use Rattle.cube_source.specs.Blocks.{bare, row_cell}
use Rattle.cube_reason.proofs.blocks.blocks_of.Given as goal

abbrev pub invariant-rows : goal.invariant-rows
invariant-rows l = l.blocks ≡ [] ++ map (row_cell l.levels) (filter (λ row. list_any (covers (bare l.core) l.cell) row.places) (take l.row-index l.row-items))

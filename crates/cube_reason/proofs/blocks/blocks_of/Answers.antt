use Rattle.std.specs.List.{list_any}
use Rattle.std.proofs.Common.{List, length, map, filter, sym, ap, ◌∙◌, subst}
use Rattle.std.proofs.lemmas.List.{take_all}
use Rattle.cube_model.specs.declared.answer.Row.{Row}
use Rattle.cube_model.specs.Cubes.{covers}
use Rattle.cube_source.specs.Blocks.{bare, row_cell, AreBlocks}
use Rattle.cube_source.proofs.Rows.{block_places}
use Rattle.cube_reason.proofs.Made.{blocks_found}
use Rattle.cube_reason.proofs.blocks.blocks_of.Goals as goal

pub covers_any-requires-clause-places : goal.covers_any-requires-clause-places
covers_any-requires-clause-places c =
    block_places (length c.args.core.now.shape.points) c.as_slice-row-items.result.now c.rows.row-index c.row-item.result c.as_slice.result.now
    (subst (AreBlocks (length c.args.core.now.shape.points)) (sym c.as_slice-row-items.ensures) c.in_ok-rows.ensures.places) c.rows-test.true c.row-item.is c.as_slice.ensures

pub returns : goal.returns
returns c =
    c.rows.invariant
    ∙ ap (λ (rs : List Row). map (row_cell c.args.levels.now) (filter (λ (row : Row). list_any (covers (bare c.args.core.now) c.args.cell.now) row.places) rs)) (take_all c.rows.row-index c.as_slice-row-items.result.now c.rows-test.false ∙ c.as_slice-row-items.ensures)
    ∙ blocks_found (bare c.args.core.now) c.args.levels.now c.args.cell.now c.in_ok-rows.rows c.in_ok-rows.ensures.rows

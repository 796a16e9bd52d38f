use Rattle.std.specs.Option.{option_map}
use Rattle.std.proofs.Common.{not, ◌&&◌, find, length, Some, refl, sym, ap, ◌∙◌}
use Rattle.cube_model.specs.declared.answer.Row.{Row}
use Rattle.cube_source.specs.Blocks.{bare, row_cell}
use Rattle.cube_source.specs.Few.{guards_row}
use Rattle.cube_source.proofs.Rows.{block_at}
use Rattle.cube_source.proofs.Steps.{find_skip, find_hit}
use Rattle.cube_carrying.specs.KeptCells as said
use Rattle.cube_carrying.proofs.Walked.{chosen, unchosen, row_covered}
use Rattle.cube_carrying.proofs.unkept.unkept_row.Goals as goal

pub unkept_cell-requires-clause-below : goal.unkept_cell-requires-clause-below
unkept_cell-requires-clause-below c = block_at (length c.args.crossing.now.old.now.shape.points) c.args.rows.now c.rows.row-index c.row-item.result c.requires.below c.rows-test.true c.row-item.is

pub unkept_cell-requires-clause-covered : goal.unkept_cell-requires-clause-covered
unkept_cell-requires-clause-covered c = row_covered (bare c.args.crossing.now.old.now) c.args.levels.now c.args.rows.now c.rows.row-index c.row-item.result c.requires.rows c.rows-test.true c.row-item.is

pub returns-in-Some : goal.returns-in-Some
returns-in-Some c =
    let test = λ (row : Row). guards_row (bare c.args.crossing.now.old.now) c.args.object.now row.places && not (said.is_kept c.args.crossing.now.old.now c.args.crossing.now.new.now c.args.crossing.now.new_policy.now c.args.crossing.now.measure (row_cell c.args.levels.now row)) in
    let hit = chosen (test c.row-item.result) (row_cell c.args.levels.now c.row-item.result) c.in-Some.cell (sym c.in_ok-found.ensures ∙ c.in-Some.is) in
    ap Some (sym hit.1)
    ∙ ap (option_map (row_cell c.args.levels.now)) (find_hit test c.args.rows.now c.rows.row-index c.row-item.result (find test c.args.rows.now) c.rows-test.true c.row-item.is hit.0 c.rows.invariant)

pub rows-preserved : goal.rows-preserved
rows-preserved c =
    let test = λ (row : Row). guards_row (bare c.args.crossing.now.old.now) c.args.object.now row.places && not (said.is_kept c.args.crossing.now.old.now c.args.crossing.now.new.now c.args.crossing.now.new_policy.now c.args.crossing.now.measure (row_cell c.args.levels.now row)) in
    find_skip test c.args.rows.now c.rows.row-index c.row-item.result (find test c.args.rows.now) c.rows-test.true c.row-item.is
    (unchosen (test c.row-item.result) (row_cell c.args.levels.now c.row-item.result) (sym c.in_ok-found.ensures ∙ c.in_default.is)) c.rows.invariant

use Rattle.std.specs.List.{list_any}
use Rattle.std.specs.Option.{option_map}
use Rattle.std.proofs.Common.{ℕ, false, not, ◌&&◌, find, List, length, get_or, Some, sym, ap, ◌∙◌}
use Rattle.cube_model.specs.declared.answer.Row.{Row}
use Rattle.cube_source.specs.Blocks.{bare, row_cell}
use Rattle.cube_source.specs.Few.{guards_row}
use Rattle.cube_source.proofs.Rows.{block_at}
use Rattle.cube_source.proofs.Steps.{find_skip, find_hit}
use Rattle.cube_source.proofs.judging.uncut_row.Goals as goal

pub passes-requires-clause-places : goal.passes-requires-clause-places
passes-requires-clause-places c = block_at (length c.args.core.now.shape.points) c.args.rows.now c.rows.row-index c.row-item.result c.requires.rows c.rows-test.true c.row-item.is

pub rows-preserved : goal.rows-preserved
rows-preserved c =
    let test = λ (is : List ℕ). guards_row (bare c.args.core.now) c.args.object.now is && not (list_any (λ place. get_or c.args.mixed.now place false) is) in
    find_skip (λ (row : Row). test row.places) c.args.rows.now c.rows.row-index c.row-item.result (find (λ (row : Row). test row.places) c.args.rows.now) c.rows-test.true c.row-item.is
    (sym c.passes.ensures ∙ c.if-passes.false) c.rows.invariant

pub returns-then-passes : goal.returns-then-passes
returns-then-passes c =
    let test = λ (is : List ℕ). guards_row (bare c.args.core.now) c.args.object.now is && not (list_any (λ place. get_or c.args.mixed.now place false) is) in
    ap Some c.in_ok-make_cell.ensures
    ∙ ap (option_map (row_cell c.args.levels.now)) (find_hit (λ (row : Row). test row.places) c.args.rows.now c.rows.row-index c.row-item.result (find (λ (row : Row). test row.places) c.args.rows.now) c.rows-test.true c.row-item.is
    (sym c.passes.ensures ∙ c.if-passes.true) c.rows.invariant)

use Rattle.std.proofs.Common.{◌<◌, length, List, ℕ, sym, ap, ◌∙◌, subst}
use Rattle.cube_source.specs.Blocks.{bare, row_cell}
use Rattle.cube_source.specs.Few.{guards_row}
use Rattle.cube_carrying.specs.KeptCells as said
use Rattle.cube_carrying.proofs.Walked.{passed_over, taken}
use Rattle.cube_carrying.proofs.unkept.unkept_cell.Goals as goal

pub returns-then-branch : goal.returns-then-branch
returns-then-branch c =
    let kept = said.is_kept c.args.crossing.now.old.now c.args.crossing.now.new.now c.args.crossing.now.new_policy.now c.args.crossing.now.measure in
    passed_over (guards_row (bare c.args.crossing.now.old.now) c.args.object.now c.args.row.now.places) (kept (row_cell c.args.levels.now c.args.row.now)) (row_cell c.args.levels.now c.args.row.now)
    (sym (c.in_ok-is_kept.ensures ∙ ap kept c.in_ok-cell.ensures) ∙ c.if-branch.true)

pub returns : goal.returns
returns c =
    let kept = said.is_kept c.args.crossing.now.old.now c.args.crossing.now.new.now c.args.crossing.now.new_policy.now c.args.crossing.now.measure in
    taken (guards_row (bare c.args.crossing.now.old.now) c.args.object.now c.args.row.now.places) (kept (row_cell c.args.levels.now c.args.row.now)) (row_cell c.args.levels.now c.args.row.now) c.in_ok-cell.cell
    (sym c.guards_row.ensures ∙ c.if-not-guards_row.false)
    (sym (c.in_ok-is_kept.ensures ∙ ap kept c.in_ok-cell.ensures) ∙ c.if-branch.false)
    c.in_ok-cell.ensures

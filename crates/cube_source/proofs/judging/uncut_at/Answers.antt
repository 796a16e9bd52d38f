use Rattle.std.specs.List.{list_any}
use Rattle.std.specs.Option.{option_map}
use Rattle.std.proofs.Common.{◌≡◌, false, not, ◌&&◌, find, List, length, get_or, sym, ap, ◌∙◌, subst}
use Rattle.std.proofs.lemmas.Result.{IfOk-weaker}
use Rattle.cube_model.specs.declared.answer.Row.{Row}
use Rattle.cube_model.specs.declared.cell.Cell.{Cell}
use Rattle.cube_model.specs.Protection.{touched}
use Rattle.cube_source.specs.Blocks.{bare, row_cell, is_mixed, is_parted, AreBlocks, AreFlags}
use Rattle.cube_source.specs.Few.{guards_row}
use Rattle.cube_source.proofs.Cuts.{all_parted, first_cell}
use Rattle.cube_source.proofs.judging.uncut_at.Goals as goal

pub returns-then-not-any_unmixed : goal.returns-then-not-any_unmixed
returns-then-not-any_unmixed c =
    let flags = subst (AreFlags (length c.args.core.now.shape.points) (is_mixed (bare c.args.core.now) c.args.levels.now c.args.blocks.now)) (sym c.as_slice.ensures.value) c.in_ok-mixed.ensures in
    all_parted (bare c.args.core.now) c.args.object.now c.args.levels.now c.args.blocks.now c.as_slice.result.now c.requires.blocks flags (sym c.any_unmixed.ensures ∙ c.if-not-any_unmixed.true)

pub uncut_row-requires-clause-rows : goal.uncut_row-requires-clause-rows
uncut_row-requires-clause-rows c = subst (AreBlocks (length c.args.core.now.shape.points)) (sym c.as_slice-2.ensures) c.in_ok-rows.ensures.places

pub returns : goal.returns
returns c =
    let flags = subst (AreFlags (length c.args.core.now.shape.points) (is_mixed (bare c.args.core.now) c.args.levels.now c.args.blocks.now)) (sym c.as_slice-3.ensures.value) c.in_ok-mixed.ensures in
    let found = λ (rows : List Row). option_map (row_cell c.args.levels.now) (find (λ row. guards_row (bare c.args.core.now) c.args.object.now row.places && not (list_any (λ place. get_or c.as_slice-3.result.now place false) row.places)) rows) in
    IfOk-weaker c.uncut_row.result (λ o. o ≡ found c.as_slice-2.result.now) (λ o. o ≡ find (λ (t : Cell). not (is_parted (bare c.args.core.now) c.args.blocks.now t)) (touched (bare c.args.core.now) c.args.object.now c.args.levels.now))
    (λ o e. e ∙ ap found (c.as_slice-2.ensures ∙ c.in_ok-rows.ensures.rows) ∙ first_cell (bare c.args.core.now) c.args.object.now c.args.levels.now c.args.blocks.now c.as_slice-3.result.now c.requires.blocks flags) c.uncut_row.ensures

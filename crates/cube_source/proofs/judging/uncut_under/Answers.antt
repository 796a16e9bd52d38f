use Rattle.std.proofs.Common.{not, find, sym, ◌∙◌}
use Rattle.cube_model.specs.declared.cell.Cell.{Cell}
use Rattle.cube_model.specs.Dims.{plains}
use Rattle.cube_model.specs.Protection.{touched, under}
use Rattle.cube_source.specs.Blocks.{bare, is_parted}
use Rattle.cube_source.proofs.Keys.{below_levels}
use Rattle.cube_source.proofs.Steps.{walk_skip, walk_hit}
use Rattle.cube_source.proofs.judging.uncut_under.Goals as goal

pub uncut_at-requires-clause-levels : goal.uncut_at-requires-clause-levels
uncut_at-requires-clause-levels c = below_levels (plains c.args.core.now.dims) c.args.object.now.levels c.as_slice-levels-items.result.now c.levels.levels-index c.levels-item.result c.requires.levels (c.as_slice-levels-items.ensures ∙ c.in_ok-cuboids.ensures) c.levels-test.true c.levels-item.is

pub returns-in-Some : goal.returns-in-Some
returns-in-Some c =
    let uncut = λ (t : Cell). not (is_parted (bare c.args.core.now) c.args.blocks.now t) in
    walk_hit uncut (touched (bare c.args.core.now) c.args.object.now) c.as_slice-levels-items.result.now c.levels.levels-index c.levels-item.result c.in-Some.cell (find uncut (under (bare c.args.core.now) c.args.object.now)) c.levels-test.true c.levels-item.is (sym c.in_ok-cell.ensures ∙ c.in-Some.is) c.levels.invariant

pub levels-preserved : goal.levels-preserved
levels-preserved c =
    let uncut = λ (t : Cell). not (is_parted (bare c.args.core.now) c.args.blocks.now t) in
    walk_skip uncut (touched (bare c.args.core.now) c.args.object.now) c.as_slice-levels-items.result.now c.levels.levels-index c.levels-item.result (find uncut (under (bare c.args.core.now) c.args.object.now)) c.levels-test.true c.levels-item.is (sym c.in_ok-cell.ensures ∙ c.in_default.is) c.levels.invariant

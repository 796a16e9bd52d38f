use Rattle.std.proofs.Common.{not, find, sym, ◌∙◌}
use Rattle.cube_model.specs.declared.cell.Cell.{Cell}
use Rattle.cube_model.specs.Dims.{plains}
use Rattle.cube_model.specs.Protection.{touched, under}
use Rattle.cube_source.specs.Blocks.{bare}
use Rattle.cube_source.proofs.Keys.{below_levels}
use Rattle.cube_source.proofs.Steps.{walk_skip, walk_hit}
use Rattle.cube_carrying.specs.KeptCells as said
use Rattle.cube_carrying.proofs.unkept.unkept_below.Goals as goal

pub unkept_at-requires-clause-levels : goal.unkept_at-requires-clause-levels
unkept_at-requires-clause-levels c = below_levels (plains c.args.crossing.now.old.now.dims) c.args.object.now.levels c.as_slice-levels-items.result.now c.levels.levels-index c.levels-item.result c.requires.levels (c.as_slice-levels-items.ensures ∙ c.in_ok-cuboids.ensures) c.levels-test.true c.levels-item.is

pub returns-in-Some : goal.returns-in-Some
returns-in-Some c =
    let unkept = λ (t : Cell). not (said.is_kept c.args.crossing.now.old.now c.args.crossing.now.new.now c.args.crossing.now.new_policy.now c.args.crossing.now.measure t) in
    walk_hit unkept (touched (bare c.args.crossing.now.old.now) c.args.object.now) c.as_slice-levels-items.result.now c.levels.levels-index c.levels-item.result c.in-Some.cell (find unkept (under (bare c.args.crossing.now.old.now) c.args.object.now)) c.levels-test.true c.levels-item.is (sym c.in_ok-found.ensures ∙ c.in-Some.is) c.levels.invariant

pub levels-preserved : goal.levels-preserved
levels-preserved c =
    let unkept = λ (t : Cell). not (said.is_kept c.args.crossing.now.old.now c.args.crossing.now.new.now c.args.crossing.now.new_policy.now c.args.crossing.now.measure t) in
    walk_skip unkept (touched (bare c.args.crossing.now.old.now) c.args.object.now) c.as_slice-levels-items.result.now c.levels.levels-index c.levels-item.result (find unkept (under (bare c.args.crossing.now.old.now) c.args.object.now)) c.levels-test.true c.levels-item.is (sym c.in_ok-found.ensures ∙ c.in_default.is) c.levels.invariant

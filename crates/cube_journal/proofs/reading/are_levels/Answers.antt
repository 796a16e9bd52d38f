use Rattle.std.proofs.Common.{◌≢◌, length, rules}
use Rattle.cube_journal.proofs.Levels.{uneven, level_more, level_fails}
use Rattle.cube_journal.proofs.reading.are_levels.Goals as goal

pub returns-then-levels-dimensions : goal.returns-then-levels-dimensions
returns-then-levels-dimensions c =
    let ne : length c.args.levels.now ≢ length c.args.dims.now.dimensions = search rules in
    uneven c.args.dims.now.dimensions c.args.levels.now ne

pub returns-then-levels-d : goal.returns-then-levels-d
returns-then-levels-d c = let i = c.index-dimensions-d.is in let t = c.loop-d-test.true in let w = c.if-levels-d.true in let e = c.levels.ensures.levels in level_fails c.args.dims.now.dimensions c.args.levels.now c.loop-d.d c.index-dimensions-d.result (search rules) (search rules) (search rules)

pub loop-d-preserved : goal.loop-d-preserved
loop-d-preserved c = let i = c.index-dimensions-d.is in let t = c.loop-d-test.true in let w = c.if-levels-d.false in let e = c.levels.ensures.levels in level_more c.args.dims.now.dimensions c.args.levels.now c.loop-d.d c.index-dimensions-d.result (search rules) (search rules) (search rules) c.loop-d.invariant

use Rattle.std.proofs.Common.{◌<◌, length, arith}
use Rattle.cube_journal.specs.PublicText.{point_line}
use Rattle.cube_journal.proofs.Publics.{zip_item}
use Rattle.cube_journal.proofs.public.push_points.Goals as goal

pub loop-i-preserved : goal.loop-i-preserved
loop-i-preserved c =
    let there : c.loop-i.i < length c.args.facts.now = omega (arith, c.requires, c.loop-i-test.true) in
    zip_item point_line c.args.points.now c.args.facts.now c.loop-i.i c.index-points-i.result _ _ _ _ c.loop-i-test.true there c.index-points-i.is c.loop-i.invariant (rw c.as_slice.ensures at c.in_ok-push_point.ensures)

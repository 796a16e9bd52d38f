use Rattle.std.proofs.Common.{arith}
use Rattle.cube_draft.proofs.Counting.{counted_more, are_few}
use Rattle.cube_draft.proofs.shown.are_few.Goals as goal

pub loop-row-preserved : goal.loop-row-preserved
loop-row-preserved c =
    let counts = c.in_ok-note_row.ensures c.if-not-branch.false in
    (counts.few, counted_more c.args.table.now.fields.items c.args.places.now c.loop-row.points.firsts.items c.note_row.new.points.firsts.items c.loop-row.row c.loop-row.invariant.1 counts)

pub returns : goal.returns
returns c = λ is. (
    let past = c.loop-row-test.false in
    are_few c.args.table.now.fields.items c.args.places.now c.loop-row.points.firsts.items c.args.table.now.rows c.loop-row.row c.loop-row.invariant.0 (omega (arith, past)) c.loop-row.invariant.1)

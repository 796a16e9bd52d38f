use Rattle.std.proofs.Common.{length, ap, arith}
use Rattle.cube_draft.proofs.Steps.{true_of}
use Rattle.cube_draft.proofs.check.are_true.Goals as goal

pub returns : goal.returns
returns c = λ bytes holds yes.
    let t = c.args.table.now in
    let long = ap length c.dimensions-dimensions.ensures.dimensions in
    true_of c.args.dims.now bytes t.header t.members.items t.fields.items t.rows c.loop-number.number holds (omega (arith, long, c.loop-number-test.false)) c.loop-number.invariant

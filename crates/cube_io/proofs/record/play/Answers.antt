use Rattle.cube_io.specs.Mem.{fresh}
use Rattle.cube_io.proofs.Records.{now_more}
use Rattle.cube_io.proofs.record.play.Goals as goal

pub loop-call-preserved : goal.loop-call-preserved
loop-call-preserved c = now_more c.args.log (fresh c.args.text.now.items) c.args.bytes.now c.args.calls.now c.loop-call.call-index _ _ _ c.loop-call-test.true c.loop-call.invariant c.in_ok-read_after.ensures

use Rattle.std.proofs.Common.{◌≡◌, take, map}
use Rattle.cube_io.specs.Mem.{log_after, fresh, deed}
use Rattle.cube_io.proofs.record.play.Given as goal

abbrev pub invariant-loop-call : goal.invariant-loop-call
invariant-loop-call l = l.text.items ≡ (log_after l.log (fresh l.initial.text.items) (map (deed l.bytes) (take l.call-index l.calls))).state.now

use Rattle.std.proofs.Common.{rules}
use Rattle.cube_io.specs.Content.{AppendsPrefix}
use Rattle.cube_io.specs.Wires.{rendered}
use Rattle.cube_io.specs.Wires.LogEntry.{Sent}
use Rattle.cube_script.proofs.Rendering.{head_broken, bytes_broken, feed_broken, sent_whole}
use Rattle.cube_script.proofs.render.put_sent.Goals as goal

pub returns-in_err-put-clause-err : goal.returns-in_err-put-clause-err
returns-in_err-put-clause-err g c =
    let x : AppendsPrefix (g.O.Sink.state c.args.out.now).written (g.O.Sink.state c.put.new.self).written (rendered (Sent c.args.c c.args.piece.now)) =
    head_broken c.args.c c.args.piece.now _ _ (rw c.write_sent-end.ensures.written at c.in_err-put.ensures.bytes) in
    search rules

pub returns-in_err-put-2-clause-err : goal.returns-in_err-put-2-clause-err
returns-in_err-put-2-clause-err g c =
    let x : AppendsPrefix (g.O.Sink.state c.args.out.now).written (g.O.Sink.state c.put-2.new.self).written (rendered (Sent c.args.c c.args.piece.now)) =
    bytes_broken c.args.c c.args.piece.now _ _ _ (rw c.write_sent-end.ensures.written at c.in_ok-put.ensures.bytes) c.in_err-put-2.ensures.bytes in
    search rules

pub returns-in_err-put-3-clause-err : goal.returns-in_err-put-3-clause-err
returns-in_err-put-3-clause-err g c =
    let x : AppendsPrefix (g.O.Sink.state c.args.out.now).written (g.O.Sink.state c.put-3.new.self).written (rendered (Sent c.args.c c.args.piece.now)) =
    feed_broken c.args.c c.args.piece.now _ _ _ _ (rw c.write_sent-end.ensures.written at c.in_ok-put.ensures.bytes) c.in_ok-put-2.ensures.bytes c.in_err-put-3.ensures.bytes in
    search rules

pub returns-clause-ok : goal.returns-clause-ok
returns-clause-ok g c = sent_whole c.args.c c.args.piece.now _ _ _ _ (rw c.write_sent-end.ensures.written at c.in_ok-put.ensures.bytes) c.in_ok-put-2.ensures.bytes c.in_ok-put-3.ensures.bytes

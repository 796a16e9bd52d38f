use Rattle.std.proofs.Common.{◌++◌, rules}
use Rattle.cube_io.specs.Content.{AppendsPrefix}
use Rattle.cube_talk.specs.Replies.{head_text, reply_text}
use Rattle.cube_talk.proofs.Puttings.{may_spoke}
use Rattle.cube_talk.proofs.Spoken.{broken_early, spoke_then, spoke_broken}
use Rattle.cube_talk.proofs.replies.Replies.put_reply.Goals as goal

pub returns-in_err-put-clause-err : goal.returns-in_err-put-clause-err
returns-in_err-put-clause-err g c =
    let head = c.write_prefix-end.ensures.written in
    let body = c.body_of-body.ensures in
    let status = c.status_of.ensures in
    let x : AppendsPrefix (g.O.Sink.state c.args.out.now).written (g.O.Sink.state c.put.new.out).written (c.args.self.now ++ reply_text c.args.reply.now) =
    broken_early (head_text _ _) _ c.args.self.now _ _ (rw (head, status, body) at c.in_err-put.ensures.err) in
    search rules

pub returns-in_err-put-2-clause-err : goal.returns-in_err-put-2-clause-err
returns-in_err-put-2-clause-err g c =
    let head = c.write_prefix-end.ensures.written in
    let body = c.body_of-body.ensures in
    let status = c.status_of.ensures in
    let x : AppendsPrefix (g.O.Sink.state c.args.out.now).written (g.O.Sink.state c.put-2.new.out).written (c.args.self.now ++ reply_text c.args.reply.now) =
    spoke_broken (head_text _ _) _ c.args.self.now c.put.new.self _ _ _ (rw (head, status, body) at c.in_ok-put.ensures.ok) (rw body at c.in_err-put-2.ensures.err) in
    search rules

pub returns-clause-ok : goal.returns-clause-ok
returns-clause-ok g c =
    let head = c.write_prefix-end.ensures.written in
    let body = c.body_of-body.ensures in
    let status = c.status_of.ensures in
    spoke_then (head_text _ _) _ c.args.self.now c.put.new.self _ _ _ _ (rw (head, status, body) at c.in_ok-put.ensures.ok) (rw body at c.in_ok-put-2.ensures.ok)

pub put-requires-2 : goal.put-requires-2
put-requires-2 g c =
    let head = c.write_prefix-end.ensures.written in
    let body = c.body_of-body.ensures in
    let status = c.status_of.ensures in
    rw body (may_spoke g.O.Sink.allows (g.S.Store.state c.args.store.now) (g.O.Sink.state c.args.out.now).written (g.O.Sink.state c.put.new.out).written (head_text _ _) _ c.args.self.now c.put.new.self
    c.requires (rw (head, status, body) at c.in_ok-put.ensures.ok))

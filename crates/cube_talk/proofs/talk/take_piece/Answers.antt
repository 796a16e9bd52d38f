use Rattle.cube_talk.proofs.Puttings.{sight_over}
use Rattle.cube_talk.proofs.Settled.{piece_settled}
use Rattle.cube_talk.proofs.talk.take_piece.Goals as goal

pub returns-clause-some : goal.returns-clause-some
returns-clause-some g c =
    piece_settled g.R.Responder.says c.answer_piece-heard.result c.flush_heard.result c.args.responder.now c.answer_piece-heard.new.responder c.args.store.now c.answer_piece-heard.new.store c.args.piece.now c.args.carry.now
    c.answer_piece-heard.new.carry c.answer_piece-heard.new.replies (g.O.Sink.state c.args.out.now).written (g.O.Sink.state c.answer_piece-heard.new.out).written (g.O.Sink.state c.flush_heard.new.out).written
    (rw c.requires.empty at c.answer_piece-heard.ensures.all) (rw c.requires.empty at c.answer_piece-heard.ensures.some) c.flush_heard.ensures.puts

pub returns-clause-sight : goal.returns-clause-sight
returns-clause-sight g c =
    sight_over (g.S.Store.state c.args.store.now) (g.S.Store.state c.answer_piece-heard.new.store) (g.O.Sink.state c.args.out.now).loose (g.O.Sink.state c.answer_piece-heard.new.out).loose (g.O.Sink.state c.flush_heard.new.out).loose
    c.answer_piece-heard.ensures.sight c.flush_heard.ensures.sight

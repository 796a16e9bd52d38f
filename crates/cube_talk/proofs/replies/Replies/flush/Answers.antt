use Rattle.std.proofs.Common.{List, ℕ, sym, subst, ◌∙◌}
use Rattle.cube_talk.specs.Putting.{MayPut}
use Rattle.cube_talk.proofs.Puttings.{may_whole}
use Rattle.cube_talk.proofs.replies.Replies.flush.Goals as goal

pub put-requires : goal.put-requires
put-requires g c =
    let store = g.S.Store.state c.args.store.now in
    let written = (g.O.Sink.state c.args.out.now).written in
    may_whole g.O.Sink.allows store written c.as_slice.result.now (subst (λ (l : List ℕ). MayPut g.O.Sink.allows store written l) (sym (c.as_slice.ensures.value ∙ c.self.view_is)) c.requires)

use Rattle.std.proofs.Common.{ap, sym, ◌∙◌}
use Rattle.cube_edge.specs.Ends.{idle_of}
use Rattle.cube_edge.specs.Sockets.{SocketsState}
use Rattle.cube_edge.proofs.Tying.{begun}
use Rattle.cube_edge.proofs.wire.SocketWire.new.Goals as goal

pub invariant_of-result : goal.invariant_of-result
invariant_of-result g c = record {
  tells = λ told. ap (λ (s : SocketsState). s.told) c.in_ok-new.ensures.sockets ∙ c.requires.tells told;
  heeds = λ told. c.in_ok-new.ensures.idle ∙ ap (idle_of 0) (sym (c.requires.fresh told).1);
  tied = begun (g.N.Watch.state c.args.watch) (g.S.Sockets.state c.in_ok-new.field-0.sockets) c.in_ok-new.field-0.links.items (λ told. (c.requires.fresh told).0) c.in_ok-new.ensures.tied;
}

use Rattle.std.proofs.Common.{◌≡◌, ◌∙◌, length, sym, ap, subst, arith, rules}
use Rattle.std.specs.Prelude.{IsTrue}
use Rattle.cube_edge.proofs.Ending.{none_fares, none_same}
use Rattle.cube_edge.proofs.wire.SocketWire.drain.Goals as goal

pub returns-then-is_settled-clause-closes : goal.returns-then-is_settled-clause-closes
returns-then-is_settled-clause-closes g c = λ told.
    let same : length c.waits.self.hub.links.items ≡ length c.pass.new.self.hub.links.items = search rules in
    none_fares c.waits.self.hub.idle (g.S.Sockets.state c.waits.self.hub.sockets) (g.S.Sockets.state c.pass.new.self.hub.sockets) c.waits.self.hub.links.items c.pass.new.self.hub.links.items same (c.pass.ensures.lets (subst IsTrue (sym c.waits.invariant.told) told)) (c.waits.invariant.closes told)

pub returns-then-is_err-clause-closes : goal.returns-then-is_err-clause-closes
returns-then-is_err-clause-closes g c = λ told.
    let same : length c.waits.self.hub.links.items ≡ length c.pass.new.self.hub.links.items = search rules in
    none_same c.pass.new.self.hub.links.items c.wait.new.self.hub.links.items (ap (λ v. v.items) c.wait.ensures.links)
    (none_fares c.waits.self.hub.idle (g.S.Sockets.state c.waits.self.hub.sockets) (g.S.Sockets.state c.pass.new.self.hub.sockets) c.waits.self.hub.links.items c.pass.new.self.hub.links.items same (c.pass.ensures.lets (subst IsTrue (sym c.waits.invariant.told) told)) (c.waits.invariant.closes told))

pub waits-preserved : goal.waits-preserved
waits-preserved g c =
    let inv = c.waits.invariant in
    let same : length c.waits.self.hub.links.items ≡ length c.pass.new.self.hub.links.items = search rules in
    let steady : (g.S.Sockets.state c.wait.new.self.hub.sockets).faults ≡ (g.S.Sockets.state c.pass.new.self.hub.sockets).faults = search rules in
    record {
      size = c.pass.ensures.size ∙ inv.size;
      told = c.wait.ensures.told ∙ c.pass.ensures.told ∙ inv.told;
      faults = steady ∙ c.pass.ensures.faults ∙ inv.faults;
      closes = λ told.
          none_same c.pass.new.self.hub.links.items c.wait.new.self.hub.links.items (ap (λ v. v.items) c.wait.ensures.links)
          (none_fares c.waits.self.hub.idle (g.S.Sockets.state c.waits.self.hub.sockets) (g.S.Sockets.state c.pass.new.self.hub.sockets) c.waits.self.hub.links.items c.pass.new.self.hub.links.items same (c.pass.ensures.lets (subst IsTrue (sym inv.told) told)) (inv.closes told));
      counted = λ told.
          let rose = c.wait.ensures.counted (subst IsTrue (sym (c.pass.ensures.told ∙ inv.told)) told) in
          omega (arith, rose, inv.counted told, c.pass.ensures.time.waits);
    }

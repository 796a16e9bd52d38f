use Rattle.std.proofs.Common.{refl}
use Rattle.cube_io.specs.Wires.Arrival.{End}
use Rattle.cube_io.specs.Wires.LogEntry.{Heard}
use Rattle.cube_edge.proofs.Tying.{still_tells, still_heeds, quiet_step, told_step, takes_still}
use Rattle.cube_edge.proofs.wire.SocketWireWire.next.Goals as goal

pub invariant_of-self : goal.invariant_of-self
invariant_of-self g c =
    let w = g.N.Watch.state c.args.self.now.watch in
    let s = g.S.Sockets.state c.args.self.now.hub.sockets in
    let links = c.args.self.now.hub.links.items in
    record {
      tells = still_tells w (g.N.Watch.state c.expect_event.new.self) s s c.expect_event.ensures.told refl c.args.self.now.tells;
      heeds = still_heeds w (g.N.Watch.state c.expect_event.new.self) c.args.self.now.hub.idle c.args.self.now.hub.idle c.expect_event.ensures.told c.expect_event.ensures.heard refl c.args.self.now.heeds;
      tied = quiet_step w (g.N.Watch.state c.expect_event.new.self) s s links links c.expect_event.ensures.told c.expect_event.ensures.log (λ on log tied. tied) c.args.self.now.tells c.args.self.now.tied;
    }

pub invariant_of-self-2 : goal.invariant_of-self-2
invariant_of-self-2 g c =
    let w = g.N.Watch.state c.waits.self.watch in
    let s = g.S.Sockets.state c.waits.self.hub.sockets in
    let links = c.waits.self.hub.links.items in
    record {
      tells = still_tells w (g.N.Watch.state c.hear.new.self) s s c.hear.ensures.told refl c.waits.self.tells;
      heeds = still_heeds w (g.N.Watch.state c.hear.new.self) c.waits.self.hub.idle c.waits.self.hub.idle c.hear.ensures.told c.hear.ensures.heard refl c.waits.self.heeds;
      tied = told_step (Heard End) w (g.N.Watch.state c.hear.new.self) s s links links c.hear.ensures (takes_still (Heard End) s s links links (λ d. record { flow = λ was. refl; opens = λ was. refl }) (λ on log tied. tied)) c.waits.self.tells c.waits.self.tied;
    }

use Rattle.std.proofs.Common.{ℕ, ◌∙◌, sym, subst}
use Rattle.std.specs.Prelude.{Some, IsTrue}
use Rattle.cube_edge.specs.Ends.{LetsGo}
use Rattle.cube_edge.proofs.Ending.{unseen_then, lets_then}
use Rattle.cube_edge.proofs.Tying.{keeps_then, event_then}
use Rattle.cube_edge.proofs.hub.Hub.pass.Goals as goal

pub returns-in-Some-clause-takes : goal.returns-in-Some-clause-takes
returns-in-Some-clause-takes g c = event_then (Some c.in-Some.event) c.visit.new.buf (g.S.Sockets.state c.args.self.now.sockets) (g.S.Sockets.state c.links.self.sockets) (g.S.Sockets.state c.visit.new.self.sockets) c.args.self.now.links.items c.links.self.links.items c.visit.new.self.links.items c.links.invariant.told c.links.invariant.keeps c.in-Some.ensures.takes

pub links-preserved : goal.links-preserved
links-preserved g c = record {
  size = c.in_default.ensures.size ∙ c.links.invariant.size;
  faults = c.in_default.ensures.faults ∙ c.links.invariant.faults;
  told = c.in_default.ensures.told ∙ c.links.invariant.told;
  keeps = keeps_then (g.S.Sockets.state c.args.self.now.sockets) (g.S.Sockets.state c.links.self.sockets) (g.S.Sockets.state c.visit.new.self.sockets) c.args.self.now.links.items c.links.self.links.items c.visit.new.self.links.items c.links.invariant.told c.links.invariant.keeps c.in_default.ensures.takes;
  idle = c.visit.ensures.idle ∙ c.links.invariant.idle;
  time = record { clock = c.visit.ensures.time.clock ∙ c.links.invariant.time.clock; waits = c.visit.ensures.time.waits ∙ c.links.invariant.time.waits };
  unseen = λ told. let on = subst IsTrue (sym c.links.invariant.told) told in unseen_then c.links.place (g.S.Sockets.state c.args.self.now.sockets) (g.S.Sockets.state c.links.self.sockets) (g.S.Sockets.state c.visit.new.self.sockets) c.args.self.now.links.items c.links.self.links.items c.visit.new.self.links.items (c.links.invariant.unseen told) (c.visit.ensures.others on) c.visit.ensures.rest;
  lets = λ told. (let on = subst IsTrue (sym c.links.invariant.told) told in
      lets_then c.links.place c.args.self.now.idle (g.S.Sockets.state c.args.self.now.sockets) (g.S.Sockets.state c.links.self.sockets) (g.S.Sockets.state c.visit.new.self.sockets) c.args.self.now.links.items c.links.self.links.items c.visit.new.self.links.items (c.links.invariant.unseen told) (c.visit.ensures.others on) c.visit.ensures.rest c.visit.ensures.time (c.links.invariant.lets told) (subst (λ (n : ℕ). LetsGo n (g.S.Sockets.state c.links.self.sockets) c.links.self.links.items (g.S.Sockets.state c.visit.new.self.sockets) c.visit.new.self.links.items) c.links.invariant.idle (c.visit.ensures.lets on)));
}

pub returns-in-Some-clause-lets : goal.returns-in-Some-clause-lets
returns-in-Some-clause-lets g c = λ told. (let on = subst IsTrue (sym c.links.invariant.told) told in
    lets_then c.links.place c.args.self.now.idle (g.S.Sockets.state c.args.self.now.sockets) (g.S.Sockets.state c.links.self.sockets) (g.S.Sockets.state c.visit.new.self.sockets) c.args.self.now.links.items c.links.self.links.items c.visit.new.self.links.items (c.links.invariant.unseen told) (c.visit.ensures.others on) c.visit.ensures.rest c.visit.ensures.time (c.links.invariant.lets told) (subst (λ (n : ℕ). LetsGo n (g.S.Sockets.state c.links.self.sockets) c.links.self.links.items (g.S.Sockets.state c.visit.new.self.sockets) c.visit.new.self.links.items) c.links.invariant.idle (c.visit.ensures.lets on)))

use Rattle.std.proofs.Common.{◌≡◌, take, ap, rules}
use Rattle.std.specs.Prelude.{None}
use Rattle.trial_worlds.proofs.Clients.{client_comes}
use Rattle.trial_worlds.proofs.mem_sockets.MemSocketsSockets.accept.Goals as goal

pub returns-clause-bytes : goal.returns-clause-bytes
returns-clause-bytes c = λ told.
    let none : c.args.self.now.number ≡ None = search rules in
    client_comes c.args.self.now.number c.args.c c.args.self.now.waits (record { taken = take c.args.self.now.taken c.args.self.now.coming; given = c.args.self.now.given; gone = c.args.self.now.is_gone; shut = c.args.self.now.is_shut }) (take c.args.self.now.taken c.args.self.now.coming) c.args.self.now.given none (ap (λ n. take n c.args.self.now.coming) (c.args.self.now.unread none)) (c.args.self.now.unsent none)

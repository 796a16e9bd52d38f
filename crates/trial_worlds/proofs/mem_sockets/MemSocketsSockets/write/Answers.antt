use Rattle.std.proofs.Common.{◌≡◌, take, true, false, refl, sym, append-nil, rules}
use Rattle.trial_worlds.specs.OneClient.{is_number}
use Rattle.trial_worlds.proofs.Clients.{client_only, client_moves, nobody_moves}
use Rattle.trial_worlds.proofs.mem_sockets.MemSocketsSockets.write.Goals as goal

pub returns-clause-only : goal.returns-clause-only
returns-clause-only c =
    let its : is_number c.args.self.now.number c.args.c ≡ true = search rules in
    client_only c.args.self.now.number c.args.c c.args.self.now.waits (record { taken = take c.args.self.now.taken c.args.self.now.coming; given = c.args.self.now.given; gone = c.args.self.now.is_gone; shut = c.args.self.now.is_shut }) (record { taken = take c.args.self.now.taken c.args.self.now.coming; given = c.put_front.new.given; gone = c.args.self.now.is_gone; shut = c.args.self.now.is_shut }) its

pub returns-clause-bytes : goal.returns-clause-bytes
returns-clause-bytes c = λ told.
    let its : is_number c.args.self.now.number c.args.c ≡ true = search rules in
    client_moves c.args.self.now.number c.args.c c.args.self.now.waits (record { taken = take c.args.self.now.taken c.args.self.now.coming; given = c.args.self.now.given; gone = c.args.self.now.is_gone; shut = c.args.self.now.is_shut }) (record { taken = take c.args.self.now.taken c.args.self.now.coming; given = c.put_front.new.given; gone = c.args.self.now.is_gone; shut = c.args.self.now.is_shut }) _ (take c.put_front.result c.args.piece.now) its (sym (append-nil _)) c.put_front.ensures.bytes refl refl

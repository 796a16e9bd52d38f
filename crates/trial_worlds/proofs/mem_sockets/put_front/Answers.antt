use Rattle.std.proofs.Common.{List, ℕ, ◌++◌, drop, length, sym, ◌∙◌, ap}
use Rattle.trial_worlds.proofs.Clients.{front_is}
use Rattle.trial_worlds.proofs.mem_sockets.put_front.Goals as goal

pub returns-in-Ok-clause-bytes : goal.returns-in-Ok-clause-bytes
returns-in-Ok-clause-bytes c =
    c.in-Ok.ensures.ok ∙ ap (λ (l : List ℕ). c.args.given.now ++ l) (sym (front_is c.args.piece.now c.front-front.result.now (drop (length c.front-front.result.now) c.args.piece.now) c.front-front.ensures.rest))

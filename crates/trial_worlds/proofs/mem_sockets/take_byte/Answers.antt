use Rattle.std.proofs.Common.{List, ℕ, ◌++◌, take, get_or, sym, ◌∙◌, ap}
use Rattle.std.proofs.lemmas.List.{take_more, take_more_set}
use Rattle.trial_worlds.proofs.mem_sockets.take_byte.Goals as goal

pub returns-clause-bytes : goal.returns-clause-bytes
returns-clause-bytes c =
    take_more c.args.coming.now c.args.taken.now 0 c.requires.byte ∙ ap (λ (l : List ℕ). take c.args.taken.now c.args.coming.now ++ l) (sym (take_more_set c.args.buf.now 0 (get_or c.args.coming.now c.args.taken.now 0) c.requires.buf))

use Rattle.std.proofs.Common.{◌≡◌, List, ℕ, drop, length, refl, ◌∙◌, ap, rules}
use Rattle.trial_worlds.specs.declared.file_pair.FilePair.{FilePair}
use Rattle.trial_worlds.specs.declared.mem_log.Deed.TheVariants as deed
use Rattle.trial_worlds.specs.Deeds.{stepped}
use Rattle.trial_worlds.specs.Pairs.{log_at}
use Rattle.trial_worlds.proofs.Steps.{none_appended, front_appended, put_step}
use Rattle.trial_worlds.proofs.mem_disk.MemDiskDisk.write.Goals as goal

pub returns-then-fails-clause-grows : goal.returns-then-fails-clause-grows
returns-then-fails-clause-grows c = λ told. (c.args.piece.now, tt, none_appended c.args.piece.now (log_at c.args.self.now.files c.args.file.now.path) (log_at c.fails.new.self.files c.args.file.now.path) (ap (λ (files : FilePair). log_at files c.args.file.now.path) c.fails.ensures.files))

pub returns-in-Ok-perform-clause-grows : goal.returns-in-Ok-perform-clause-grows
returns-in-Ok-perform-clause-grows c = λ told.
    let path = c.args.file.now.path in
    let front = c.front-front.result.now in
    let rest = drop (length front) c.args.piece.now in
    let text : c.in-Ok.text ≡ front = search rules in
    let step : log_at c.perform.new.self path ≡ stepped (log_at c.fails.new.self.files path) (deed.Put c.in-Ok.text) = search rules in
    let is : log_at c.perform.new.self path ≡ stepped (log_at c.args.self.now.files path) (deed.Put front) =
    step ∙ ap (λ (files : FilePair). stepped (log_at files path) (deed.Put c.in-Ok.text)) c.fails.ensures.files ∙ ap (λ (t : List ℕ). stepped (log_at c.args.self.now.files path) (deed.Put t)) text in
    (rest, refl, front_appended c.args.piece.now front rest (log_at c.args.self.now.files path) (log_at c.perform.new.self path) c.front-front.ensures.rest (put_step front (log_at c.args.self.now.files path) (log_at c.perform.new.self path) is))

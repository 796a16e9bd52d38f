use Rattle.std.proofs.Common.{◌≡◌, ◌≢◌, ◌∷◌, ◌++◌, [], sym, ◌∙◌, ap, rules}
use Rattle.std.proofs.lemmas.Slice.Eq.{bytes_eq-Decides}
use Rattle.cube_io.specs.States.{Log}
use Rattle.trial_worlds.specs.Deeds.{log_of, stepped}
use Rattle.trial_worlds.proofs.Steps.{more, at_name, at_beside}
use Rattle.trial_worlds.proofs.file_pair.FilePair.perform.Goals as goal

pub returns-in-Ok-clause-ok : goal.returns-in-Ok-clause-ok
returns-in-Ok-clause-ok c =
    let files = c.args.self.now in
    let same : c.args.path.now ≡ files.name = search (rules, bytes_eq-Decides) in
    let is : c.perform.new.self ≡ files.file ++ c.args.deed ∷ [] = search rules in
    at_name files.name files.beside c.args.path.now (log_of c.perform.new.self) (log_of files.other) same ∙ ap log_of is ∙ more files.file c.args.deed
    ∙ ap (λ (l : Log). stepped l c.args.deed) (sym (at_name files.name files.beside c.args.path.now (log_of files.file) (log_of files.other) same))

pub returns-in-Ok-perform-clause-ok : goal.returns-in-Ok-perform-clause-ok
returns-in-Ok-perform-clause-ok c =
    let files = c.args.self.now in
    let other : c.args.path.now ≢ files.name = search (rules, bytes_eq-Decides) in
    let same : c.args.path.now ≡ files.beside = search (rules, bytes_eq-Decides) in
    let is : c.perform-then-eq-2.new.self ≡ files.other ++ c.args.deed ∷ [] = search rules in
    at_beside files.name files.beside c.args.path.now (log_of files.file) (log_of c.perform-then-eq-2.new.self) other same ∙ ap log_of is ∙ more files.other c.args.deed
    ∙ ap (λ (l : Log). stepped l c.args.deed) (sym (at_beside files.name files.beside c.args.path.now (log_of files.file) (log_of files.other) other same))

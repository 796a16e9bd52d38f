use Rattle.std.proofs.Common.{◌≡◌, ◌≢◌, ◌∷◌, ◌++◌, [], rules}
use Rattle.std.proofs.lemmas.Slice.Eq.{bytes_eq-Decides}
use Rattle.cube_io.specs.States.{settled}
use Rattle.trial_worlds.specs.declared.mem_log.Deed.TheVariants as deed
use Rattle.trial_worlds.specs.Deeds.{log_of}
use Rattle.trial_worlds.specs.Pairs.{behind}
use Rattle.trial_worlds.proofs.Steps.{Replaced, replaced}
use Rattle.trial_worlds.proofs.file_pair.FilePair.replace.Goals as goal

all : (c : goal.After-drop-self-in-Ok-perform) → Replaced (behind c.args.self.now.name c.args.self.now.beside (log_of c.args.self.now.file) (log_of c.args.self.now.other) c.args.from.now) (behind c.args.self.now.name c.args.self.now.beside (log_of c.args.self.now.file) (log_of c.args.self.now.other) c.args.to.now) (behind c.args.self.now.name c.args.self.now.beside (log_of c.perform.new.self) (log_of c.new.result) c.args.to.now)
all c =
    let files = c.args.self.now in
    let differs : c.args.from.now ≢ files.name = search (rules, bytes_eq-Decides) in
    let is_beside : c.args.from.now ≡ files.beside = search (rules, bytes_eq-Decides) in
    let is_name : c.args.to.now ≡ files.name = search (rules, bytes_eq-Decides) in
    let clean : (log_of files.other).state ≡ settled c.in-Ok.bytes = search rules in
    let is : c.perform.new.self ≡ files.file ++ deed.Become c.in-Ok.bytes ∷ [] = search rules in
    replaced files.name files.beside c.args.from.now c.args.to.now c.in-Ok.bytes files.file c.perform.new.self files.other (log_of c.new.result) differs is_beside is_name clean is

pub returns-in-Ok-perform-clause-passes : goal.returns-in-Ok-perform-clause-passes
returns-in-Ok-perform-clause-passes c = (all c).passes

pub returns-in-Ok-perform-clause-done : goal.returns-in-Ok-perform-clause-done
returns-in-Ok-perform-clause-done c = (all c).done

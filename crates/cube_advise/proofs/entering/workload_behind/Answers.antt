use Rattle.std.proofs.Common.{◌≡◌, ◌∙◌, ◌++◌, [], ◌∷◌, true, take, sym, ap, subst}
use Rattle.std.proofs.lemmas.List.{take_more}
use Rattle.cube_model.specs.declared.entry.Entry.{Entry}
use Rattle.cube_model.specs.Cores.{shown}
use Rattle.cube_model.specs.Entries.{is_allowed}
use Rattle.cube_advise.proofs.Entries.{entry_allowed, entry_enters}
use Rattle.cube_advise.proofs.entering.workload_behind.Goals as goal

pub take-requires-clause-allowed : goal.take-requires-clause-allowed
take-requires-clause-allowed c =
    let g = shown c.args.core.now c.args.policy.now in
    subst (λ (e : Entry). is_allowed g e ≡ true) (sym c.entry-item.is) (entry_allowed g c.args.history.now c.entries.entry-index c.entry-item.result c.requires.admissible c.entries-test.true)

pub entries-preserved : goal.entries-preserved
entries-preserved c =
    let g = shown c.args.core.now c.args.policy.now in
    let h = c.args.history.now in
    let i = c.entries.entry-index in
    let e = c.entry-item.result in
    let more = take_more h i e c.entries-test.true ∙ ap (λ (x : Entry). take i h ++ x ∷ []) (sym c.entry-item.is) in
    record {
      stands = c.in_ok-take.ensures.stands;
      so_far = entry_enters g h c.entries.state.history c.take.new.self.history i e e c.in_ok-take.field-0 c.requires.admissible c.entries-test.true (sym c.entry-item.is) c.entries.invariant.so_far c.in_ok-take.ensures.taken c.in_ok-take.ensures.history more;
    }

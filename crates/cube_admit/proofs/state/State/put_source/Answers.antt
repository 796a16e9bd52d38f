use Rattle.std.proofs.Common.{◌≡◌, List, length, None, ap, ◌∙◌}
use Rattle.cube_model.specs.declared.entry.Entry.{Entry}
use Rattle.cube_model.specs.Entries.{requests}
use Rattle.cube_admit.specs.States.{State}
use Rattle.cube_admit.proofs.Taking.{requests-source}
use Rattle.cube_admit.proofs.state.State.put_source.Goals as goal

pub invariant_of-self-2 : goal.invariant_of-self-2
invariant_of-self-2 c =
    let empty : c.self.inside.pending ≡ None = ap (λ (s : State). s.pending) c.self.view_is ∙ c.requires.none in
    let count = λ (h : List Entry). length (requests h) in
    (ap count c.enter.ensures ∙ requests-source c.reserve.new.self.items c.args.measure c.in_ok-levels.levels ∙ ap count c.reserve.ensures.items ∙ c.self.invariant.0, c.self.invariant.1, rw empty tt)

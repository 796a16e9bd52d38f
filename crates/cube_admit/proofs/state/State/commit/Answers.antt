use Rattle.std.proofs.Common.{◌≡◌, ◌+◌, ◌<◌, ℕ, [], ◌∷◌, ◌++◌, length, set, get_or, Some, sym, ap, ◌∙◌, subst, arith}
use Rattle.cube_model.specs.declared.entry.Entry.TheVariants.{Asked}
use Rattle.cube_admit.specs.declared.held.Held.TheVariants as held
use Rattle.std.specs.Vec.{vec_capacity}
use Rattle.cube_admit.specs.Needs.{CanEnter}
use Rattle.cube_admit.specs.States.{State, entered}
use Rattle.cube_admit.proofs.Standing.{committed, requests-push}
use Rattle.cube_admit.proofs.state.State.commit.Goals as goal

pub invariant_of-self : goal.invariant_of-self
invariant_of-self c =
    let waits : c.self.inside.pending ≡ Some c.in-Some.pending = cc in
    let capacity = subst (CanEnter c.self.inside.asked (length c.self.inside.history.items) (vec_capacity c.self.inside.history) c.self.inside.held.items) waits c.self.invariant.2 in
    (rw c.enter.ensures (requests-push c.self.inside.history.items c.in-Some.pending.request ∙ ap (λ (n : ℕ). n + 1) c.self.invariant.0), omega (arith, capacity.0), rw c.take.ensures.after tt)

pub returns-in-Some-clause-stands : goal.returns-in-Some-clause-stands
returns-in-Some-clause-stands c g stands =
    let waits : c.self.inside.pending ≡ Some c.in-Some.pending = cc in
    let capacity = subst (CanEnter c.self.inside.asked (length c.self.inside.history.items) (vec_capacity c.self.inside.history) c.self.inside.held.items) waits c.self.invariant.2 in
    committed g c.args.self.now _ c.in-Some.pending (ap (λ (s : State). s.pending) (sym c.self.view_is) ∙ waits) (subst (λ (s : State). c.in-Some.pending.measure < length s.held) c.self.view_is capacity.2) (c.enter.ensures ∙ ap (λ (s : State). s.history ++ Asked c.in-Some.pending.request ∷ []) c.self.view_is) (c.keep_at.ensures ∙ ap (λ (s : State). set s.held c.in-Some.pending.measure (entered c.in-Some.pending.next (get_or s.held c.in-Some.pending.measure held.Open))) c.self.view_is) c.take.ensures.after (ap (λ (s : State). s.table) c.self.view_is) stands

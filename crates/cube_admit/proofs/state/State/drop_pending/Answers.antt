use Rattle.std.proofs.Common.{◌≡◌, ◌<◌, List, length, set, get_or, Some, sym, ap, ◌∙◌, subst}
use Rattle.std.specs.Vec.{vec_capacity}
use Rattle.cube_admit.specs.declared.held.Held.{Held}
use Rattle.cube_admit.specs.declared.held.Held.TheVariants as held
use Rattle.cube_admit.specs.Needs.{CanEnter}
use Rattle.cube_admit.specs.States.{State, given_back}
use Rattle.cube_admit.proofs.Standing.{dropped}
use Rattle.cube_admit.proofs.state.State.drop_pending.Goals as goal

pub returns-in-Some-clause-stands : goal.returns-in-Some-clause-stands
returns-in-Some-clause-stands c g stands =
    let waits : c.self.inside.pending ≡ Some c.in-Some.pending = cc in
    let capacity = subst (CanEnter c.self.inside.asked (length c.self.inside.history.items) (vec_capacity c.self.inside.history) c.self.inside.held.items) waits c.self.invariant.2 in
    let was : c.self.inside.held.items ≡ c.args.self.now.held = ap (λ (s : State). s.held) c.self.view_is in
    dropped g c.args.self.now _ c.in-Some.pending (ap (λ (s : State). s.pending) (sym c.self.view_is) ∙ waits) (subst (λ (hs : List Held). c.in-Some.pending.measure < length hs) was capacity.2) (ap (λ (s : State). s.history) c.self.view_is) (c.give_back_at.ensures ∙ ap (λ (hs : List Held). set hs c.in-Some.pending.measure (given_back c.in-Some.pending.next (get_or hs c.in-Some.pending.measure held.Open))) was) c.take.ensures.after (ap (λ (s : State). s.table) c.self.view_is) stands

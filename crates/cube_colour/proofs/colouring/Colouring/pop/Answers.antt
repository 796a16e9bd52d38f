use Rattle.std.proofs.Common.{◌∷◌, ◌++◌, [], List, inl, refl, sym, subst, arith}
use Rattle.cube_model.proofs.Members.{append_right}
use Rattle.cube_colour.specs.declared.forest.Node.{Node}
use Rattle.cube_colour.specs.declared.step.Step.{Step}
use Rattle.cube_colour.specs.Steps.{IsStep, Stands}
use Rattle.cube_colour.proofs.History.{All-member, grown, stands_less}
use Rattle.cube_colour.proofs.colouring.Colouring.pop.Goals as goal

pub restore-requires-clause-first : goal.restore-requires-clause-first
restore-requires-clause-first c =
    let s = c.self.inside in
    let stands = subst (λ (steps : List Step). Stands s.places s.guarded steps s.forest) c.in-Some.ensures.items c.self.invariant in
    let step = All-member (IsStep s.places) c.in-Some.step (c.pop.new.self.items ++ c.in-Some.step ∷ []) stands.in_range (append_right c.in-Some.step c.pop.new.self.items (c.in-Some.step ∷ []) (inl refl)) in
    let long = (grown s.places s.guarded s.steps.items s.forest c.self.invariant).long in
    omega (arith, step.0, long)

pub restore-requires-clause-second : goal.restore-requires-clause-second
restore-requires-clause-second c =
    let s = c.self.inside in
    let stands = subst (λ (steps : List Step). Stands s.places s.guarded steps s.forest) c.in-Some.ensures.items c.self.invariant in
    let step = All-member (IsStep s.places) c.in-Some.step (c.pop.new.self.items ++ c.in-Some.step ∷ []) stands.in_range (append_right c.in-Some.step c.pop.new.self.items (c.in-Some.step ∷ []) (inl refl)) in
    let long = (grown s.places s.guarded s.steps.items s.forest c.self.invariant).long in
    omega (arith, step.1, long)

pub invariant_of-self : goal.invariant_of-self
invariant_of-self c =
    let s = c.self.inside in
    let stands = subst (λ (steps : List Step). Stands s.places s.guarded steps s.forest) c.in-Some.ensures.items c.self.invariant in
    subst (λ (nodes : List Node). Stands s.places s.guarded c.pop.new.self.items nodes) (sym c.restore.ensures) (stands_less s.places s.guarded c.pop.new.self.items c.in-Some.step s.forest stands)

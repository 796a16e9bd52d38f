use Rattle.std.proofs.Common.{ap, subst, arith, length}
use Rattle.std.proofs.lemmas.List.{length-map}
use Rattle.cube_colour.specs.declared.step.Step.{Step}
use Rattle.cube_colour.specs.Colourings.{Colouring, IsColouring}
use Rattle.cube_colour.proofs.History.{rules}
use Rattle.cube_colour.proofs.colouring.Colouring.mark.Goals as goal

pub returns-clause-few : goal.returns-clause-few
returns-clause-few c =
    let all = subst IsColouring c.self.view_is (rules c.self.inside.places c.self.inside.guarded c.self.inside.steps.items c.self.inside.forest c.self.invariant) in
    omega (arith, all.short, c.len.ensures, c.self.inside.steps.ok.0, length-map c.self.inside.steps.items (λ (s : Step). s.link), ap (λ (v : Colouring). length v.kept) c.self.view_is)

pub returns-clause-rules : goal.returns-clause-rules
returns-clause-rules c = subst IsColouring c.self.view_is (rules c.self.inside.places c.self.inside.guarded c.self.inside.steps.items c.self.inside.forest c.self.invariant)

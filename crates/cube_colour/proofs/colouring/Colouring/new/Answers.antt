use Rattle.std.proofs.Common.{◌≡◌, ℕ, List, map, sym, ◌∙◌, ap, subst, rules}
use Rattle.cube_model.specs.Cubes.{count_from}
use Rattle.cube_colour.specs.declared.step.Step.{Step}
use Rattle.cube_colour.specs.Forests.{alone}
use Rattle.cube_colour.specs.Steps.{Stands}
use Rattle.cube_colour.proofs.History.{stands_start}
use Rattle.cube_colour.proofs.colouring.Colouring.new.Goals as goal

pub invariant_of-result : goal.invariant_of-result
invariant_of-result c =
    let copied : c.from_vec-guarded.result ≡ c.args.guarded.now = search rules in
    let lone = c.in_ok-forest.ensures ∙ ap (λ (guards : List ℕ). map (alone guards) (count_from 0 c.args.places)) c.as_slice.ensures in
    subst (λ (guards : List ℕ). Stands c.args.places guards c.new-2.result.items c.in_ok-forest.forest) (sym copied)
    (subst (λ (steps : List Step). Stands c.args.places c.args.guarded.now steps c.in_ok-forest.forest) (sym c.new-2.ensures.items) (stands_start c.args.places c.args.guarded.now c.in_ok-forest.forest c.requires lone))

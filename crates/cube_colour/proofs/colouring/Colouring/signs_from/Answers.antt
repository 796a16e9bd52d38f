use Rattle.std.proofs.Common.{◌≡◌, ◌<◌, ℕ, Bool, true, [], ◌∷◌, ◌++◌, map, ℤ, sym, ap, ap₂, ◌∙◌, subst, arith, rules, w8, SFits}
use Rattle.std.proofs.lemmas.Int.{to_z-of_z}
use Rattle.cube_model.specs.Cubes.{count_from}
use Rattle.cube_model.specs.Links.{is_free}
use Rattle.cube_model.specs.LinkLaws.{ends}
use Rattle.cube_model.specs.Twins.{by_walks}
use Rattle.cube_colour.specs.Colourings.{Colouring}
use Rattle.cube_colour.specs.Forests.{sign_beside}
use Rattle.cube_colour.specs.Steps.{links_of}
use Rattle.cube_colour.proofs.History.{forest, grown}
use Rattle.cube_colour.proofs.Signs.{sign_more, signs_are}
use Rattle.cube_colour.proofs.colouring.Colouring.signs_from.Goals as goal

pub find-from-requires-clause-forest : goal.find-from-requires-clause-forest
find-from-requires-clause-forest c = forest c.self.inside.places c.self.inside.guarded c.self.inside.steps.items c.self.inside.forest c.self.invariant

pub sign_beside-requires-clause-forest : goal.sign_beside-requires-clause-forest
sign_beside-requires-clause-forest c = forest c.self.inside.places c.self.inside.guarded c.self.inside.steps.items c.self.inside.forest c.self.invariant

pub sign_beside-requires-clause-place : goal.sign_beside-requires-clause-place
sign_beside-requires-clause-place c =
    let long = (grown c.self.inside.places c.self.inside.guarded c.self.inside.steps.items c.self.inside.forest c.self.invariant).long in
    omega (arith, long)

pub places-preserved : goal.places-preserved
places-preserved c l h =
    let range : SFits w8 c.sign_beside.result = search rules in
    sign_more (sign_beside l c.find-from.result.root c.find-from.result.opposite) c.places.signs c.push.new.self c.places.at (c.places.invariant l h) (let stored = rw (to_z-of_z w8 c.sign_beside.result range) at c.in_ok-push.ensures.ok in stored ∙ ap (λ (x : ℤ). c.places.signs ++ x ∷ []) (c.sign_beside.ensures l h))

pub returns : goal.returns
returns c =
    let s = c.self.inside in
    let g = grown s.places s.guarded s.steps.items s.forest c.self.invariant in
    let below = subst (λ (v : Colouring). c.args.place < v.places) (sym c.self.view_is) c.requires.place in
    let free = subst (λ (v : Colouring). is_free v.places v.kept c.args.place ≡ true) (sym c.self.view_is) c.requires.free in
    let from = c.find-from.ensures.labels g.labels g.labelled in
    let at = c.places.invariant g.labels g.labelled in
    subst (λ (v : Colouring). c.places.signs ≡ map (by_walks (ends v.places v.kept c.args.place)) (count_from 0 v.places)) c.self.view_is
    (at ∙ ap₂ (λ (r : ℕ) (b : Bool). map (sign_beside g.labels r b) (count_from 0 c.places.at)) (sym from.0) (sym from.1) ∙ ap (λ (n : ℕ). map (sign_beside g.labels (g.labels.root c.args.place) (g.labels.opposite c.args.place)) (count_from 0 n)) (omega arith)
    ∙ signs_are s.places (links_of s.steps.items) g.labels g.are_labels c.self.invariant.of_places c.args.place below free)

use Rattle.std.proofs.Common.{◌≡◌, ◌<◌, not, sym, ap, ◌∙◌, subst}
use Rattle.cube_model.specs.Links.{is_free}
use Rattle.cube_colour.specs.Colourings.{Colouring}
use Rattle.cube_colour.specs.Steps.{links_of}
use Rattle.cube_colour.proofs.Components.{free_labels}
use Rattle.cube_colour.proofs.History.{forest, grown}
use Rattle.cube_colour.proofs.colouring.Colouring.is_free.Goals as goal

pub is_fixed-requires-clause-forest : goal.is_fixed-requires-clause-forest
is_fixed-requires-clause-forest c = forest c.self.inside.places c.self.inside.guarded c.self.inside.steps.items c.self.inside.forest c.self.invariant

pub returns : goal.returns
returns c =
    let s = c.self.inside in
    let g = grown s.places s.guarded s.steps.items s.forest c.self.invariant in
    let below = subst (λ (v : Colouring). c.args.place < v.places) (sym c.self.view_is) c.requires in
    subst (λ (v : Colouring). not c.is_fixed.result ≡ is_free v.places v.kept c.args.place) c.self.view_is
    (ap not (c.is_fixed.ensures g.labels g.labelled) ∙ sym (free_labels s.places (links_of s.steps.items) g.labels g.are_labels c.args.place below))

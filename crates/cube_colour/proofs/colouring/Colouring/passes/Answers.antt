use Rattle.std.proofs.Common.{List, sym, ap, subst}
use Rattle.cube_model.specs.declared.link.Link.{Link}
use Rattle.cube_colour.specs.Colourings.{Colouring}
use Rattle.cube_colour.specs.Outcomes.{IsGrown}
use Rattle.cube_colour.specs.Steps.{links_of}
use Rattle.cube_colour.proofs.History.{forest, basis_same, follows_here, rules}
use Rattle.cube_colour.proofs.colouring.Colouring.passes.Goals as goal

pub tells-requires-clause-forest : goal.tells-requires-clause-forest
tells-requires-clause-forest c = forest c.self.inside.places c.self.inside.guarded c.self.inside.steps.items c.self.inside.forest c.self.invariant

pub returns : goal.returns
returns c told =
    let s = c.self.inside in
    let view : List Link → Colouring = λ kept. record { places = s.places; guarded = s.guarded; kept = kept } in
    subst (λ (v : Colouring). IsGrown v v c.args.link) c.self.view_is
    (record {
      kept = ap view (sym (basis_same s.places (links_of s.steps.items) c.args.link c.self.invariant.own_basis (follows_here s.places s.guarded s.steps.items s.forest c.self.invariant c.args.link (λ l h xs holds. c.tells.ensures l h xs holds told))));
      rules = rules s.places s.guarded s.steps.items s.forest c.self.invariant;
    })

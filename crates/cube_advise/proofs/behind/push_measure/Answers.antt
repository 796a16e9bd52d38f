use Rattle.std.proofs.Common.{◌∙◌, ◌<◌, ℕ, List, length, Option, sym, subst}
use Rattle.cube_model.specs.Cores.{shown}
use Rattle.cube_model.specs.Dims.{plains}
use Rattle.cube_advise.specs.Open.{InRange}
use Rattle.cube_advise.proofs.Listing.{kept_source, source_range}
use Rattle.cube_advise.proofs.behind.push_measure.Goals as goal

pub push_lattice-requires-clause-source : goal.push_lattice-requires-clause-source
push_lattice-requires-clause-source c =
    let g = shown c.args.core.now c.args.policy.now in
    let s = c.args.state.now in
    let below : c.args.measure < length s.held = subst (λ (n : ℕ). c.args.measure < n) (sym (c.requires.stands.long ∙ c.requires.policy.methods)) c.requires.measure in
    subst (λ (o : Option (List ℕ)). InRange (plains c.args.core.now.dims) o)
    (sym (c.source.ensures ∙ kept_source g s c.args.measure c.requires.stands (sym c.method.ensures ∙ c.in-Lattice.is) below))
    (source_range g s c.args.measure c.requires.stands)

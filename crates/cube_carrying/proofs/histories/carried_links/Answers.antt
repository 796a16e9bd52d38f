use Rattle.std.proofs.Common.{◌≡◌, ◌<◌, ℕ, List, length, map, sym, ap, ap₂, ◌∙◌, subst}
use Rattle.std.proofs.lemmas.Result.{IfOk-weaker}
use Rattle.cube_model.specs.declared.link.Link.{Link}
use Rattle.cube_model.specs.Cores.{shown}
use Rattle.cube_model.specs.Links.{basis}
use Rattle.cube_model.specs.Protection.{method}
use Rattle.cube_model.specs.Verdicts.{links_of}
use Rattle.cube_colour.specs.Colourings.{Colouring}
use Rattle.cube_carry.specs.Carrying as carrying
use Rattle.cube_carry.specs.Names.{named, measure_in}
use Rattle.cube_carrying.specs.Links.{link_by}
use Rattle.cube_carrying.specs.Places.{carried_places}
use Rattle.cube_carrying.proofs.Handed.{method_back, places_long, links_are}
use Rattle.cube_carrying.proofs.histories.carried_links.Goals as goal

pub kept_colouring-requires-clause-parity : goal.kept_colouring-requires-clause-parity
kept_colouring-requires-clause-parity c = λ l.
    let is : c.measure_in-number.result ≡ measure_in c.args.crossing.now.new.now.dims c.args.crossing.now.old.now.dims c.args.crossing.now.measure = c.measure_in-number.ensures ∙ ap₂ (λ s z. measure_in s z c.args.crossing.now.measure) c.dims.ensures.dims c.dims-2.ensures.dims in
    ap (method (shown c.args.crossing.now.old.now c.args.crossing.now.old_policy.now)) is
    ∙ method_back c.args.crossing.now.old.now c.args.crossing.now.new.now c.args.crossing.now.old_policy.now c.args.crossing.now.new_policy.now c.args.state.now c.requires.crossing.given c.dims-2.ensures.rules c.dims.ensures.rules c.args.crossing.now.measure c.requires.crossing.measure (subst (λ k. k < length c.args.crossing.now.old.now.dims.measures) is l)
    ∙ c.requires.parity

pub links_by-requires : goal.links_by-requires
links_by-requires c =
    ap (λ (d : Colouring). d.places) c.in-Some.ensures
    ∙ sym (ap length c.requires.crossing.table ∙ places_long c.args.crossing.now.old.now c.args.crossing.now.new.now c.args.crossing.now.old_policy.now c.args.crossing.now.new_policy.now c.args.state.now c.requires.crossing.given c.dims-2.ensures.rules c.dims.ensures.rules)

pub returns-in-Some : goal.returns-in-Some
returns-in-Some c =
    let a = named c.args.crossing.now.old.now c.args.crossing.now.old_policy.now in
    let b = named c.args.crossing.now.new.now c.args.crossing.now.new_policy.now in
    let is : c.measure_in-number.result ≡ measure_in c.args.crossing.now.new.now.dims c.args.crossing.now.old.now.dims c.args.crossing.now.measure = c.measure_in-number.ensures ∙ ap₂ (λ s z. measure_in s z c.args.crossing.now.measure) c.dims.ensures.dims c.dims-2.ensures.dims in
    IfOk-weaker c.links_by.result
    (λ (ls : List Link). ls ≡ map (link_by c.args.crossing.now.places.now) c.in-Some.colouring.now.kept)
    (λ (ls : List Link). ls ≡ carrying.carried_links a b c.args.state.now.history c.args.crossing.now.measure)
    (λ ls e. e
    ∙ ap₂ (λ (js : List ℕ) (d : Colouring). map (link_by js) d.kept) c.requires.crossing.table c.in-Some.ensures
    ∙ ap (λ (k : ℕ). map (link_by (carried_places c.args.crossing.now.old.now c.args.crossing.now.new.now)) (basis (length c.args.crossing.now.old.now.shape.points) (links_of (shown c.args.crossing.now.old.now c.args.crossing.now.old_policy.now) c.args.state.now.history k))) is
    ∙ links_are c.args.crossing.now.old.now c.args.crossing.now.new.now c.args.crossing.now.old_policy.now c.args.crossing.now.new_policy.now c.args.state.now c.requires.crossing.given c.dims-2.ensures.rules c.dims.ensures.rules c.args.crossing.now.measure c.requires.crossing.measure c.requires.parity)
    c.links_by.ensures

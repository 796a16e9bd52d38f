use Rattle.std.proofs.Common.{◌≡◌, ◌+◌, ℕ, List, get_or, refl, sym, ◌∙◌, ap, subst}
use Rattle.cube_model.specs.declared.link.Link.{Link}
use Rattle.cube_model.specs.declared.link.Link.TheVariants.{Pair}
use Rattle.cube_model.specs.LinkLaws.{IsOfPlaces, AreOfPlaces}
use Rattle.cube_colour.specs.Colourings.{Colouring}
use Rattle.cube_colour.specs.Outcomes.{IsStopped}
use Rattle.cube_colour.proofs.Adding.{standing_grown, standing_stop, standing_back}
use Rattle.cube_colour.proofs.Searches.{member_at}
use Rattle.cube_colour.proofs.colouring.Colouring.try_add.Goals as goal

pub passes-requires : goal.passes-requires
passes-requires c =
    let links = c.as_slice-link-items.result.now in
    let link = get_or links c.links.number (Pair 0 0) in
    let of = subst (AreOfPlaces c.args.self.now.places) (sym c.as_slice-link-items.ensures) c.requires.of_places in
    subst (λ (n : ℕ). IsOfPlaces n link) (sym c.links.invariant.places) (of link (member_at links c.links.number (Pair 0 0) c.links-test.true))

pub add-requires : goal.add-requires
add-requires c =
    let links = c.as_slice-link-items.result.now in
    let link = get_or links c.links.number (Pair 0 0) in
    let of = subst (AreOfPlaces c.args.self.now.places) (sym c.as_slice-link-items.ensures) c.requires.of_places in
    subst (λ (n : ℕ). IsOfPlaces n link) (sym c.links.invariant.places) (of link (member_at links c.links.number (Pair 0 0) c.links-test.true))

pub returns-in-Ok-Some-clause-adds : goal.returns-in-Ok-Some-clause-adds
returns-in-Ok-Some-clause-adds c =
    let links = c.as_slice-link-items.result.now in
    let link = get_or links c.links.number (Pair 0 0) in
    let grows = rw c.in-Ok-Some.field-0-is at c.in-Ok-Some.ensures.grows in
    let back = standing_back c.args.self.now c.links.self c.back_to.new.self links c.links.number c.mark-mark.result c.links.invariant c.mark-mark.ensures.mark
    (c.back_to.ensures.places ∙ ap (λ (v : Colouring). v.places) grows.0) (c.back_to.ensures.guarded ∙ ap (λ (v : Colouring). v.guarded) grows.0) (c.back_to.ensures.kept ∙ ap (λ (v : Colouring). Rattle.std.proofs.Common.take c.mark-mark.result v.kept) grows.0) in
    subst (λ (ls : List Link). IsStopped c.args.self.now c.back_to.new.self ls (c.links.number + 1) c.in-Ok-Some.place) c.as_slice-link-items.ensures
    (standing_stop c.args.self.now c.links.self links c.links.number link c.links-test.true refl c.links.invariant c.back_to.new.self c.in-Ok-Some.place back grows.1)

pub links-preserved : goal.links-preserved
links-preserved c =
    let links = c.as_slice-link-items.result.now in
    let link = get_or links c.links.number (Pair 0 0) in
    let grows = rw c.in-Ok-None.field-0-is at c.in-Ok-None.ensures.grows in
    standing_grown c.args.self.now c.links.self links c.links.number link c.links-test.true refl c.links.invariant c.add.new.self grows

pub links-preserved-then-passes : goal.links-preserved-then-passes
links-preserved-then-passes c =
    let links = c.as_slice-link-items.result.now in
    let link = get_or links c.links.number (Pair 0 0) in
    standing_grown c.args.self.now c.links.self links c.links.number link c.links-test.true refl c.links.invariant c.links.self (c.passes.ensures c.if-passes.true)

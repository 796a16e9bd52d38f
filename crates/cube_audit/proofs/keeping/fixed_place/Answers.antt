use Rattle.std.proofs.Common.{ℕ, ◌<◌, length, sym, ◌∙◌, subst}
use Rattle.std.specs.List.{All}
use Rattle.cube_model.specs.Entries.{asked}
use Rattle.cube_model.specs.Links.{suiting}
use Rattle.cube_model.specs.Protection.{guarded}
use Rattle.cube_model.specs.Verdicts.{links_of}
use Rattle.cube_admit.proofs.Standing.{guarded_below}
use Rattle.cube_audit.specs.Keeping.{public_of}
use Rattle.cube_audit.proofs.Kept.{first_place, place_below}
use Rattle.cube_audit.proofs.keeping.fixed_place.Goals as goal

pub first_fixed-requires : goal.first_fixed-requires
first_fixed-requires c =
    let g = public_of c.args.asked.now in
    subst (λ (n : ℕ). All (λ (place : ℕ). place < n) c.as_slice.result.now) (sym c.in_ok-colouring.ensures.places)
    (subst (All (λ (place : ℕ). place < length c.args.asked.now.core.now.shape.points)) (sym (c.as_slice.ensures ∙ c.in_ok-guarded.ensures)) (guarded_below g c.args.measure))

pub returns-clause-place : goal.returns-clause-place
returns-clause-place c =
    let g = public_of c.args.asked.now in
    let links = links_of g (asked c.args.asked.now.requests.now) c.args.measure in
    first_place (length c.args.asked.now.core.now.shape.points) c.in_ok-colouring.colouring.places c.in_ok-colouring.colouring.kept links c.as_slice.result.now (guarded g c.args.measure) c.first_fixed.result
    c.in_ok-colouring.ensures.places c.in_ok-colouring.ensures.kept (c.as_slice.ensures ∙ c.in_ok-guarded.ensures) c.first_fixed.ensures

pub returns-clause-below : goal.returns-clause-below
returns-clause-below c =
    let g = public_of c.args.asked.now in
    let n = length c.args.asked.now.core.now.shape.points in
    let links = links_of g (asked c.args.asked.now.requests.now) c.args.measure in
    place_below g c.args.measure (suiting n links) c.first_fixed.result
    (first_place n c.in_ok-colouring.colouring.places c.in_ok-colouring.colouring.kept links c.as_slice.result.now (guarded g c.args.measure) c.first_fixed.result
    c.in_ok-colouring.ensures.places c.in_ok-colouring.ensures.kept (c.as_slice.ensures ∙ c.in_ok-guarded.ensures) c.first_fixed.ensures)

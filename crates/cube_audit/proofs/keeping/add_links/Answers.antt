use Rattle.std.proofs.Common.{◌≡◌, ◌++◌, ℕ, [], List, length, sym, ap, ◌∙◌, subst, arith, flat_map}
use Rattle.cube_model.specs.declared.answer.Row.{Row}
use Rattle.cube_model.specs.declared.link.Link.{Link}
use Rattle.cube_model.specs.declared.policy.Policy.{Policy}
use Rattle.cube_model.specs.Cores.{shown}
use Rattle.cube_model.specs.Links.{basis, linked, links}
use Rattle.cube_model.specs.LinkLaws.{AreOfPlaces}
use Rattle.cube_admit.proofs.Few.{links_few}
use Rattle.cube_audit.proofs.keeping.add_links.Goals as goal

abbrev none : Policy
none = record { methods = []; objects = [] }

pub try_add-requires-clause-of_places : goal.try_add-requires-clause-of_places
try_add-requires-clause-of_places c =
    subst (λ (n : ℕ). AreOfPlaces n c.in_ok-links.links) (sym c.requires.places)
    (c.in_ok-links.ensures.places (length c.args.core.now.shape.points) (λ k d l. (c.in_ok-rows.ensures.places k d l).below))

pub try_add-requires-clause-few : goal.try_add-requires-clause-few
unfolding links
try_add-requires-clause-few c =
    let said : c.in_ok-links.links ≡ links (shown c.args.core.now none) c.args.request.now = c.in_ok-links.ensures.links ∙ ap (flat_map (λ (row : Row). linked row.places)) (c.in_ok-rows.ensures.rows none) in
    let few = links_few (shown c.args.core.now none) c.args.request.now in
    let small = c.dims-rules.ensures.rules.few_points in
    let long : length c.in_ok-links.links ≡ length (links (shown c.args.core.now none) c.args.request.now) = ap length said in
    omega (arith, few, small, long)

pub returns-clause-kept : goal.returns-clause-kept
unfolding links
returns-clause-kept c p =
    let added = rw c.in-Fits.is at c.in_ok-try_add.ensures.adds in
    let said : c.in_ok-links.links ≡ links (shown c.args.core.now p) c.args.request.now = c.in_ok-links.ensures.links ∙ ap (flat_map (λ (row : Row). linked row.places)) (c.in_ok-rows.ensures.rows p) in
    added.kept ∙ ap (λ (ls : List Link). basis c.args.colouring.now.places (c.args.colouring.now.kept ++ ls)) said

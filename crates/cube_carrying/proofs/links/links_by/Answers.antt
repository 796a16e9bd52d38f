use Rattle.std.proofs.Common.{ℕ, ◌<◌, length, subst, arith}
use Rattle.cube_model.specs.LinkLaws.{IsOfPlaces}
use Rattle.cube_source.proofs.Keys.{read_in}
use Rattle.cube_carrying.proofs.links.links_by.Goals as goal

pub link_by-requires : goal.link_by-requires
link_by-requires c =
    let size = c.mark-number-end.ensures.mark in
    let test = c.links-test.true in
    let below : c.links.number < length c.args.colouring.now.kept = omega (arith, size, test) in
    subst (λ (n : ℕ). IsOfPlaces n c.kept.result) c.requires (c.mark-number-end.ensures.rules.of_places c.kept.result (read_in c.args.colouring.now.kept c.links.number c.kept.result below c.kept.ensures))

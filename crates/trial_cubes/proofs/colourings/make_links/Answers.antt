use Rattle.std.proofs.Common.{get_or, length, ap, arith, rules}
use Rattle.std.proofs.lemmas.List.{length_push}
use Rattle.cube_model.specs.declared.link.Link.TheVariants.{Pair}
use Rattle.cube_model.specs.LinkLaws.{IsOfPlaces}
use Rattle.trial_cubes.proofs.MoreLinks.{one_more}
use Rattle.trial_cubes.proofs.colourings.make_links.Goals as goal

pub links-preserved : goal.links-preserved
links-preserved g c =
    let link = get_or c.args.links.now c.links.link-index (Pair 0 0) in
    let of : IsOfPlaces c.args.places link = search (rules, c.is_of_places.ensures) in
    let more = c.in_ok-push.ensures.ok in
    record {
      of_places = one_more c.args.places c.links.list c.push.new.self link c.links.invariant.of_places of more;
      long = omega (arith, ap length more, length_push c.links.list link, c.links.invariant.long);
    }

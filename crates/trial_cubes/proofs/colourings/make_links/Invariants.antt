use Rattle.std.proofs.Common.{◌≡◌, length}
use Rattle.cube_model.specs.LinkLaws.{AreOfPlaces}
use Rattle.trial_cubes.proofs.colourings.make_links.Given as goal

abbrev pub invariant-links : goal.invariant-links
invariant-links g l = record {
  of_places : AreOfPlaces l.places l.list;
  long : length l.list ≡ l.link-index;
}

use Rattle.std.proofs.Common.{◌≡◌, [], length, take}
use Rattle.cube_model.specs.Entries.{asked}
use Rattle.cube_model.specs.Links.{basis}
use Rattle.cube_model.specs.Verdicts.{links_of}
use Rattle.cube_audit.specs.Keeping.{public_of}
use Rattle.cube_audit.proofs.keeping.colour.Given as goal

abbrev pub invariant-requests : goal.invariant-requests
invariant-requests l = record {
  places : l.colouring.places ≡ length l.asked.core.now.shape.points;
  guarded : l.colouring.guarded ≡ [];
  kept : l.colouring.kept ≡ basis (length l.asked.core.now.shape.points) (links_of (public_of l.asked) (asked (take l.request-index l.request-items)) l.measure);
}

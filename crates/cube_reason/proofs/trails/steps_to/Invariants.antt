use Rattle.std.proofs.Common.{◌<◌, List, length, reverse}
use Rattle.cube_model.specs.declared.link.Link.{Link}
use Rattle.cube_model.specs.Reasons as said
use Rattle.cube_reason.specs.Trails.{AreJoined}
use Rattle.cube_reason.proofs.Trailing.{Leads}
use Rattle.cube_reason.proofs.trails.steps_to.Given as goal

abbrev pub invariant-loop-at : goal.invariant-loop-at
invariant-loop-at l = record {
  below : l.at < length l.visits;
  leads : (named : said.Origin → List Link) → AreJoined named l.visits → Leads named l.visits l.at l.number (reverse l.steps.items);
}

abbrev pub decreases-loop-at : goal.decreases-loop-at
decreases-loop-at l = l.at

use Rattle.std.proofs.Common.{◌<◌, ◌↔◌, false, List, length}
use Rattle.cube_model.specs.declared.link.Link.{Link}
use Rattle.cube_model.specs.Reasons as said
use Rattle.cube_source.specs.Blocks.{bare}
use Rattle.cube_reason.specs.Read.{GoesOn}
use Rattle.cube_reason.specs.Tied.{AreTies}
use Rattle.cube_reason.proofs.reading.reads_walk.Given as goal

abbrev pub invariant-steps : goal.invariant-steps
invariant-steps l = record {
  below : l.at < length l.core.shape.points;
  read : (named : said.Origin → List Link) → AreTies named l.ties → GoesOn l.core.dims (bare l.core) named l.start l.odd l.at l.rest ↔ GoesOn l.core.dims (bare l.core) named l.start false l.start l.lines;
}

abbrev pub decreases-steps : goal.decreases-steps
decreases-steps l = length l.rest

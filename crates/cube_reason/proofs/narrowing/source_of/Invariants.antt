use Rattle.std.proofs.Common.{◌≡◌, take}
use Rattle.cube_model.specs.Dims.{plains}
use Rattle.cube_model.specs.Verdicts as verdicts
use Rattle.cube_reason.specs.Given.{HasLevels}
use Rattle.cube_reason.proofs.narrowing.source_of.Given as goal

abbrev pub invariant-entries : goal.invariant-entries
invariant-entries l = record {
  source : l.source ≡ verdicts.source (take l.entry-index l.case.history.now) l.measure;
  levels : HasLevels (plains l.case.core.now.dims) l.source;
}

use Rattle.std.proofs.Common.{◌≡◌, take}
use Rattle.cube_model.specs.Entries.{asked}
use Rattle.cube_model.specs.Verdicts.{source}
use Rattle.cube_audit.proofs.keeping.source_of.Given as goal

abbrev pub invariant-requests : goal.invariant-requests
invariant-requests l = l.source ≡ source (asked (take l.request-index l.request-items)) l.measure

use Rattle.std.specs.List.{list_any}
use Rattle.std.proofs.Common.{◌≡◌, drop}
use Rattle.cube_source.specs.Blocks.{bare}
use Rattle.cube_reason.specs.Read.{ends_by}
use Rattle.cube_reason.proofs.reading.has_end.Given as goal

abbrev pub invariant-ties : goal.invariant-ties
invariant-ties l = list_any (ends_by l.core.dims (bare l.core) l.at l.lines) (drop l.tie-index l.ties) ≡ list_any (ends_by l.core.dims (bare l.core) l.at l.lines) l.ties

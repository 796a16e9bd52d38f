use Rattle.std.proofs.Common.{◌≡◌, ◌≤◌, ◌*◌, take}
use Rattle.cube_source.specs.Blocks.{bare}
use Rattle.cube_source.specs.Counts.{count_over}
use Rattle.cube_source.proofs.slices.count_at.Given as goal

abbrev pub invariant-measures : goal.invariant-measures
invariant-measures l = record {
  counted : l.total ≡ count_over (bare l.core) l.objects (take l.measure-index l.measures) l.levels;
  small : l.total ≤ l.measure-index * 65536;
}

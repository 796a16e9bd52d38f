use Rattle.std.proofs.Common.{◌≡◌, not, find, drop, take, None}
use Rattle.std.specs.List.{flat_map}
use Rattle.cube_model.specs.Protection.{under}
use Rattle.cube_source.specs.Blocks.{bare, is_parted}
use Rattle.cube_source.specs.Objects.{of_measure}
use Rattle.cube_source.proofs.judging.uncut_lattice.Given as goal

abbrev pub invariant-objects : goal.invariant-objects
invariant-objects l = record {
  rest : find (λ cell. not (is_parted (bare l.core) l.blocks cell)) (flat_map (under (bare l.core)) (of_measure l.measure (drop l.number l.objects)))
      ≡ find (λ cell. not (is_parted (bare l.core) l.blocks cell)) (flat_map (under (bare l.core)) (of_measure l.measure l.objects));
  none : find (λ cell. not (is_parted (bare l.core) l.blocks cell)) (flat_map (under (bare l.core)) (of_measure l.measure (take l.number l.objects))) ≡ None;
}

use Rattle.std.proofs.Common.{◌≡◌, ◌≤◌, ◌*◌, map, filter, sum, get_or}
use Rattle.cube_model.specs.Cubes.{count_from, covers}
use Rattle.cube_source.specs.Blocks.{bare}
use Rattle.cube_source.proofs.few.facts_of.Given as goal

abbrev pub invariant-places : goal.invariant-places
invariant-places l = record {
  counted : l.total ≡ sum (map (λ i. get_or l.core.shape.facts i 0) (filter (covers (bare l.core) l.cell) (count_from 0 l.place)));
  small : l.total ≤ l.place * 1000000;
}

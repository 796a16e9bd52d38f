use Rattle.std.specs.List.{list_all}
use Rattle.std.specs.Prelude.{◌==◌}
use Rattle.std.proofs.Common.{◌≡◌, ◌≤◌, length, filter, take, get_or}
use Rattle.cube_advise.proofs.lone.count_single.Given as goal

abbrev pub invariant-rows : goal.invariant-rows
invariant-rows l = record {
  counted : l.total ≡ length (filter (λ row. list_all (λ place. get_or l.facts place 0 == 1) row.places) (take l.row-index l.rows));
  small : l.total ≤ l.row-index;
}

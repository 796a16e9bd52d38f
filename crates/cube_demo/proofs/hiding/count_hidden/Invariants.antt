use Rattle.std.proofs.Common.{◌≡◌, ◌≤◌, take, count_by}
use Rattle.cube_model.specs.Cores.{shown}
use Rattle.cube_model.specs.Twins.{changes}
use Rattle.cube_demo.specs.Hiding.{hides}
use Rattle.cube_demo.proofs.hiding.count_hidden.Given as goal

abbrev pub invariant-cells : goal.invariant-cells
invariant-cells l = record {
  counted : l.count ≡ count_by (λ cell. hides (shown l.core l.policy) l.tables (changes (shown l.core l.policy) l.state.history l.measure cell) cell) (take l.cell-index l.cells);
  few : l.count ≤ l.cell-index;
}

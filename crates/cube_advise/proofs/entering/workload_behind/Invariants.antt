use Rattle.std.proofs.Common.{◌≡◌, take}
use Rattle.cube_model.specs.Cores.{shown}
use Rattle.cube_admit.specs.States.{IsStateOf}
use Rattle.cube_advise.proofs.entering.workload_behind.Given as goal

abbrev pub invariant-entries : goal.invariant-entries
invariant-entries l = record {
  stands : IsStateOf (shown l.core l.policy) l.state;
  so_far : l.state.history ≡ take l.entry-index l.history;
}

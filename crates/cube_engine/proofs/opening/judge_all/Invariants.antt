use Rattle.std.proofs.Common.{◌≡◌, ◌+◌, [], None, drop}
use Rattle.cube_model.specs.Cores.{shown}
use Rattle.cube_model.specs.Logs.{left}
use Rattle.cube_admit.specs.States.{IsStateOf}
use Rattle.cube_engine.specs.Kept.{first_entry}
use Rattle.cube_engine.proofs.opening.judge_all.Given as goal

abbrev pub invariant-entries : goal.invariant-entries
invariant-entries l = record {
  stands : IsStateOf (shown l.core l.policy) l.state;
  none : l.state.pending ≡ None;
  rest : left (shown l.core l.policy) [] first_entry l.entries ≡ left (shown l.core l.policy) l.state.history (l.number + first_entry) (drop l.number l.entries);
}

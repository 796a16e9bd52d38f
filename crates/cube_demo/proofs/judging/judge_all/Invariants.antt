use Rattle.std.proofs.Common.{◌≡◌, ◌++◌, [], None, drop}
use Rattle.cube_model.specs.Cores.{shown}
use Rattle.cube_admit.specs.States.{IsStateOf}
use Rattle.cube_demo.specs.Counting.{verdicts, history_behind}
use Rattle.cube_demo.proofs.judging.judge_all.Given as goal

abbrev pub invariant-requests : goal.invariant-requests
invariant-requests l = record {
  stands : IsStateOf (shown l.core l.policy) l.state;
  none : l.state.pending ≡ None;
  judged : l.verdicts ++ verdicts (shown l.core l.policy) l.state.history (drop l.request-index l.requests) ≡ verdicts (shown l.core l.policy) [] l.requests;
  left : history_behind (shown l.core l.policy) l.state.history (drop l.request-index l.requests) ≡ history_behind (shown l.core l.policy) [] l.requests;
}

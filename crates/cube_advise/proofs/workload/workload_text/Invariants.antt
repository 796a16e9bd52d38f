use Rattle.std.proofs.Common.{◌≡◌, ◌+◌, ◌≤◌, ◌++◌, length}
use Rattle.std.specs.Str.Lines.{lines}
use Rattle.cube_model.specs.Cores.{shown}
use Rattle.cube_admit.specs.States.{IsStateOf}
use Rattle.cube_advise.specs.Words.{words_of}
use Rattle.cube_advise.specs.Lines.{numbered}
use Rattle.cube_advise.proofs.workload.workload_text.Given as goal

abbrev pub invariant-lines : goal.invariant-lines
invariant-lines l = record {
  stands : IsStateOf (shown l.core l.policy) l.workload;
  few : l.number + length (lines l.rest) ≤ 1000000;
  said : l.words ++ numbered (l.number + 1) (words_of l.core.dims (shown l.core l.policy) l.workload.history (lines l.rest))
      ≡ numbered 1 (words_of l.core.dims (shown l.core l.policy) l.fn.workload.history (lines l.text));
}

abbrev pub decreases-lines : goal.decreases-lines
decreases-lines l = length l.rest

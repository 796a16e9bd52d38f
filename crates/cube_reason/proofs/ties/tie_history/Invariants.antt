use Rattle.cube_model.specs.Cores.{shown}
use Rattle.cube_reason.specs.Tied.{EntriesTied}
use Rattle.cube_reason.proofs.ties.tie_history.Given as goal

abbrev pub invariant-entries : goal.invariant-entries
invariant-entries l = EntriesTied (shown l.case.core.now l.case.policy.now) l.case.history.now l.measure l.index l.ties.items

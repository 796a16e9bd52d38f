use Rattle.std.proofs.Common.{subst}
use Rattle.cube_model.specs.Cores.{shown}
use Rattle.cube_model.specs.Verdicts.{IsAdmissible}
use Rattle.cube_admit.proofs.Standing.{admissible_history}
use Rattle.cube_engine.specs.Books.{Holding}
use Rattle.cube_engine.proofs.holding.Holding.core.Goals as goal

pub returns-clause-admissible : goal.returns-clause-admissible
returns-clause-admissible c =
    let x = c.self.inside in
    subst (λ (b : Holding). IsAdmissible (shown b.core b.policy) b.history) c.self.view_is (admissible_history (shown x.core x.policy) x.state c.self.invariant.1)

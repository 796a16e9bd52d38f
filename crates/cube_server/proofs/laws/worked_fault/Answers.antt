use Rattle.std.proofs.Common.{inl, inr, refl}
use Rattle.cube_server.proofs.Failing.{never_both, leaves_these, leaves_more}
use Rattle.cube_server.proofs.laws.worked_fault.Goals as goal

pub returns-clause-nothing : goal.returns-clause-nothing
returns-clause-nothing c = λ r. inl refl

pub returns-clause-first : goal.returns-clause-first
returns-clause-first c = λ r. inr (inl ((λ e. cc), refl))

pub returns-clause-second : goal.returns-clause-second
returns-clause-second c = λ r. inr (inr (inr (inl ((λ e. cc), refl))))

pub returns-clause-both : goal.returns-clause-both
returns-clause-both c = λ r. never_both r

pub returns-clause-leaves : goal.returns-clause-leaves
returns-clause-leaves c = λ r. leaves_these r

pub returns-clause-without : goal.returns-clause-without
returns-clause-without c = λ r. leaves_more r

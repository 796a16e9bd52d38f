use Rattle.std.proofs.Common.{inr, subst, sym, ap}
use Rattle.toml.specs.View.{table_view}
use Rattle.cube_model.specs.Answers.{Answers}
use Rattle.cube_policy.specs.PolicyFile.{policy_of, policy_said}
use Rattle.cube_policy.specs.declared.fault.PolicyFault.TheVariants.{NoMemory}
use Rattle.cube_policy.proofs.Rules.{rules_kept}
use Rattle.cube_policy.proofs.read.read_policy.Goals as goal

pub returns-in-Some-clause-said : goal.returns-in-Some-clause-said
unfolding policy_of
returns-in-Some-clause-said c =
    let found = rw c.in-Some.is at c.in_ok-table.ensures in
    subst (λ table. Answers NoMemory c.read_in.result (policy_said c.args.dims.now table)) found c.read_in.ensures

pub returns-in-Some-clause-rules : goal.returns-in-Some-clause-rules
returns-in-Some-clause-rules c = rules_kept c.args.dims.now (table_view c.in-Some.table) c.read_in.result c.read_in.ensures

pub returns-in-None-clause-said : goal.returns-in-None-clause-said
unfolding policy_of
returns-in-None-clause-said c =
    let found = rw c.in-None.is at c.in_ok-table.ensures in
    inr (ap (policy_said c.args.dims.now) (sym found))

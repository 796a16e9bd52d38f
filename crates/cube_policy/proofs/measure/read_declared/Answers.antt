use Rattle.std.proofs.Common.{subst}
use Rattle.toml.specs.View.{table_view}
use Rattle.cube_model.specs.Answers.{Answers}
use Rattle.cube_model.specs.Checks.{unless}
use Rattle.cube_policy.specs.PolicyFile.{declared_of, measure_faults_at, measure_faults}
use Rattle.cube_policy.specs.declared.fault.PolicyFault.TheVariants.{NoMemory}
use Rattle.cube_policy.proofs.measure.read_declared.Goals as goal

pub returns : goal.returns
unfolding measure_faults
returns c =
    subst (λ entry. Answers NoMemory c.read_declared_at.result (unless (measure_faults_at c.args.dims.now entry c.args.earlier.now (table_view c.args.table.now)) (declared_of (table_view c.args.table.now)))) c.in_ok-entry.ensures c.read_declared_at.ensures

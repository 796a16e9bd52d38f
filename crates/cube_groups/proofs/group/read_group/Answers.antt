use Rattle.std.proofs.Common.{subst}
use Rattle.toml.specs.View.{table_view}
use Rattle.cube_model.specs.Answers.{Answers}
use Rattle.cube_model.specs.Checks.{unless}
use Rattle.cube_groups.specs.GroupsFile.{group_of, group_faults_at, group_faults}
use Rattle.cube_groups.specs.declared.fault.GroupsFault.TheVariants.{NoMemory}
use Rattle.cube_groups.proofs.group.read_group.Goals as goal

pub returns : goal.returns
unfolding group_faults
returns c =
    subst (λ entry. Answers NoMemory c.read_group_at.result (unless (group_faults_at entry c.args.earlier.now (table_view c.args.table.now)) (group_of (table_view c.args.table.now)))) c.in_ok-entry.ensures c.read_group_at.ensures

use Rattle.std.proofs.Common.{inr, subst, sym, ap}
use Rattle.toml.specs.View.{table_view}
use Rattle.cube_model.specs.Answers.{Answers}
use Rattle.cube_groups.specs.GroupsFile.{groups_of, groups_said}
use Rattle.cube_groups.specs.declared.fault.GroupsFault.TheVariants.{NoMemory}
use Rattle.cube_groups.proofs.Kept.{rules_kept}
use Rattle.cube_groups.proofs.read.read_groups.Goals as goal

pub returns-in-Some-clause-said : goal.returns-in-Some-clause-said
unfolding groups_of
returns-in-Some-clause-said c =
    let found = rw c.in-Some.is at c.in_ok-table.ensures in
    subst (λ table. Answers NoMemory c.read_in.result (groups_said table)) found c.read_in.ensures

pub returns-in-Some-clause-rules : goal.returns-in-Some-clause-rules
returns-in-Some-clause-rules c = rules_kept (table_view c.in-Some.table) c.read_in.result c.read_in.ensures

pub returns-in-None-clause-said : goal.returns-in-None-clause-said
unfolding groups_of
returns-in-None-clause-said c =
    let found = rw c.in-None.is at c.in_ok-table.ensures in
    inr (ap groups_said (sym found))

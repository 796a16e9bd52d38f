use Rattle.std.proofs.Common.{sym, subst, ◌∙◌}
use Rattle.toml.specs.View.{table_view}
use Rattle.cube_groups.specs.declared.fault.GroupsFault.TheVariants.{NoMemory}
use Rattle.cube_tables.proofs.Turns.{Refused, next, both_nothing, nothing, value, refused, handed_on, accepted}
use Rattle.cube_groups.proofs.Stated.{faults_same, group_same}
use Rattle.cube_groups.proofs.group.read_group_at.Goals as goal

pub returns-in_err-check_name : goal.returns-in_err-check_name
returns-in_err-check_name c =
    let kinds = both_nothing _ _ (nothing _ _ _ c.in_ok-name.ensures) (nothing _ _ _ c.in_ok-policy.ensures) in
    let same = faults_same (table_view c.args.table.now) c.in_ok-name.name c.in_ok-policy.policy (value _ _ _ c.in_ok-name.ensures) c.args.entry.now c.args.earlier.now in
    handed_on _ _ c.in_err-check_name.field-0.0 _ _ c.from_residual-in_err-check_name.ensures.1
    (next _ _ _ _ kinds (subst (Refused NoMemory c.in_err-check_name.field-0.0) (sym same) (refused _ _ _ _ c.in_err-check_name.ensures)))

pub returns : goal.returns
returns c =
    let kinds = both_nothing _ _ (nothing _ _ _ c.in_ok-name.ensures) (nothing _ _ _ c.in_ok-policy.ensures) in
    let names = value _ _ _ c.in_ok-name.ensures in
    let same = faults_same (table_view c.args.table.now) c.in_ok-name.name c.in_ok-policy.policy names c.args.entry.now c.args.earlier.now in
    accepted _ _ _ (both_nothing _ _ kinds (same ∙ nothing _ _ _ c.in_ok-check_name.ensures))
    (group_same (table_view c.args.table.now) c.in_ok-name.name c.in_ok-policy.policy names (value _ _ _ c.in_ok-policy.ensures))

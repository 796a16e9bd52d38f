use Rattle.std.proofs.Common.{◌≡◌, ◌<◌, [], ◌∷◌, ◌++◌, length, map, take, sym, ap, subst, ◌∙◌, arith}
use Rattle.std.proofs.lemmas.List.{map_more}
use Rattle.toml.specs.Data.{no_members}
use Rattle.toml.specs.View.{view, table_view}
use Rattle.cube_tables.specs.Tables.{table_in}
use Rattle.cube_groups.specs.GroupsFile.{group_of, group_faults}
use Rattle.cube_groups.specs.declared.fault.GroupsFault.TheVariants.{NoMemory}
use Rattle.cube_tables.proofs.Turns.{Refused, turn_fault, turn_next, nothing, value, refused, handed_on}
use Rattle.cube_tables.proofs.Tabled.{table_read, length-tables}
use Rattle.cube_groups.proofs.read.read_list.Goals as goal

pub returns-in_err-group : goal.returns-in_err-group
returns-in_err-group c =
    let items = c.args.items.now in
    let tables = map table_in (map view items) in
    let i = c.loop-item.item-index in
    let long = length-tables view items in
    let within : i < length tables = omega (arith, long, c.loop-item-test.true) in
    let found = rw c.in-Some.is at c.as_table.ensures in
    let at = table_read view items i c.item-item.result (table_view c.in-Some.table.now) c.loop-item-test.true c.item-item.is found in
    let earlier = c.as_slice.ensures ∙ c.loop-item.invariant.read in
    let fault = refused _ _ _ _ c.in_err-group.ensures in
    handed_on _ _ c.in_err-group.field-0.0 _ _ c.from_residual.ensures.1
    (turn_fault (λ before table. group_faults (map group_of before) table) NoMemory c.in_err-group.field-0.0 tables i no_members within c.loop-item.invariant.none
    (subst (λ table. Refused NoMemory c.in_err-group.field-0.0 (group_faults (map group_of (take i tables)) table)) (sym at)
    (subst (λ before. Refused NoMemory c.in_err-group.field-0.0 (group_faults before (table_view c.in-Some.table.now))) earlier fault)))

pub loop-item-preserved : goal.loop-item-preserved
loop-item-preserved c =
    let items = c.args.items.now in
    let tables = map table_in (map view items) in
    let i = c.loop-item.item-index in
    let long = length-tables view items in
    let within : i < length tables = omega (arith, long, c.loop-item-test.true) in
    let found = rw c.in-Some.is at c.as_table.ensures in
    let at = table_read view items i c.item-item.result (table_view c.in-Some.table.now) c.loop-item-test.true c.item-item.is found in
    let earlier = c.as_slice.ensures ∙ c.loop-item.invariant.read in
    let none = nothing _ _ _ c.in_ok-group.ensures in
    let is = value _ _ _ c.in_ok-group.ensures in
    record {
      none = turn_next (λ before table. group_faults (map group_of before) table) tables i no_members within c.loop-item.invariant.none
          (subst (λ table. group_faults (map group_of (take i tables)) table ≡ []) (sym at)
          (subst (λ before. group_faults before (table_view c.in-Some.table.now) ≡ []) earlier none));
      read = c.in_ok-push.ensures.ok
          ∙ ap (λ xs. xs ++ c.in_ok-group.group ∷ []) c.loop-item.invariant.read
          ∙ ap (λ x. map group_of (take i tables) ++ x ∷ []) (sym is ∙ ap group_of (sym at))
          ∙ sym (map_more group_of tables i no_members within);
    }

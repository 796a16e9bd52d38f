use Rattle.std.proofs.Common.{◌≡◌, ◌<◌, ◌≤◌, ◌+◌, ℕ, [], ◌∷◌, ◌++◌, codes, length, map, take, sym, ap, subst, ◌∙◌, arith}
use Rattle.std.proofs.lemmas.List.{map_more, length-take-le}
use Rattle.toml.specs.Data.{no_members}
use Rattle.toml.specs.View.{view, table_view}
use Rattle.cube_tables.specs.Tables.{table_in, entry_of}
use Rattle.cube_tables.proofs.Turns.{Refused, turn_fault, turn_next, nothing, value, refused, handed_on}
use Rattle.cube_tables.proofs.Tabled.{table_read, length-tables}
use Rattle.cube_policy.specs.PolicyFile.{object_of, object_faults}
use Rattle.cube_policy.specs.declared.fault.PolicyFault.TheVariants.{NoMemory}
use Rattle.cube_policy.proofs.read.read_objects.Goals as goal

pub returns-in_err-read_object : goal.returns-in_err-read_object
returns-in_err-read_object c =
    let items = c.args.items.now in
    let tables = map table_in (map view items) in
    let i = c.loop-index.index in
    let long = length-tables view items in
    let within : i < length tables = omega (arith, long, c.loop-index-test.true) in
    let found = rw c.in-Some.is at c.as_table.ensures in
    let at = table_read view items i c.index-items-index.result (table_view c.in-Some.table.now) c.loop-index-test.true c.index-items-index.is found in
    let below : i ≤ length tables = omega (arith, within) in
    let entry = c.in_ok-entry.ensures ∙ ap (λ (n : ℕ). entry_of (codes "object") (n + 1)) (sym (length-take-le i tables below)) in
    handed_on _ _ c.in_err-read_object.field-0.0 _ _ c.from_residual-in_err-read_object.ensures.1
    (turn_fault (λ before table. object_faults c.args.dims.now c.args.methods.now (entry_of (codes "object") (length before + 1)) table) NoMemory c.in_err-read_object.field-0.0 tables i no_members within c.loop-index.invariant.none
    (subst (λ table. Refused NoMemory c.in_err-read_object.field-0.0 (object_faults c.args.dims.now c.args.methods.now (entry_of (codes "object") (length (take i tables) + 1)) table)) (sym at)
    (subst (λ entry. Refused NoMemory c.in_err-read_object.field-0.0 (object_faults c.args.dims.now c.args.methods.now entry (table_view c.in-Some.table.now))) entry (refused _ _ _ _ c.in_err-read_object.ensures))))

pub loop-index-preserved : goal.loop-index-preserved
loop-index-preserved c =
    let items = c.args.items.now in
    let tables = map table_in (map view items) in
    let i = c.loop-index.index in
    let long = length-tables view items in
    let within : i < length tables = omega (arith, long, c.loop-index-test.true) in
    let found = rw c.in-Some.is at c.as_table.ensures in
    let at = table_read view items i c.index-items-index.result (table_view c.in-Some.table.now) c.loop-index-test.true c.index-items-index.is found in
    let below : i ≤ length tables = omega (arith, within) in
    let entry = c.in_ok-entry.ensures ∙ ap (λ (n : ℕ). entry_of (codes "object") (n + 1)) (sym (length-take-le i tables below)) in
    let none = nothing _ _ _ c.in_ok-read_object.ensures in
    let is = value _ _ _ c.in_ok-read_object.ensures in
    record {
      none = turn_next (λ before table. object_faults c.args.dims.now c.args.methods.now (entry_of (codes "object") (length before + 1)) table) tables i no_members within c.loop-index.invariant.none
          (subst (λ table. object_faults c.args.dims.now c.args.methods.now (entry_of (codes "object") (length (take i tables) + 1)) table ≡ []) (sym at)
          (subst (λ entry. object_faults c.args.dims.now c.args.methods.now entry (table_view c.in-Some.table.now) ≡ []) entry none));
      read = c.in_ok-push.ensures.ok
          ∙ ap (λ xs. xs ++ c.in_ok-read_object.field-0 ∷ []) c.loop-index.invariant.read
          ∙ ap (λ x. map (object_of c.args.dims.now) (take i tables) ++ x ∷ []) (sym is ∙ ap (object_of c.args.dims.now) (sym at))
          ∙ sym (map_more (object_of c.args.dims.now) tables i no_members within);
    }

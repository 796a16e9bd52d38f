use Rattle.std.proofs.Common.{sym, subst, ◌∙◌}
use Rattle.toml.specs.View.{table_view}
use Rattle.cube_policy.specs.declared.fault.PolicyFault.TheVariants.{NoMemory}
use Rattle.cube_tables.proofs.Turns.{Refused, next, both_nothing, nothing, value, refused, handed_on, accepted}
use Rattle.cube_policy.proofs.Measures.{named_same, declared_same}
use Rattle.cube_policy.proofs.measure.read_declared_at.Goals as goal

pub returns-in_err-method : goal.returns-in_err-method
returns-in_err-method c =
    let keys = nothing _ _ _ c.in_ok-check_keys.ensures in
    let name = nothing _ _ _ c.in_ok-name.ensures in
    let word = nothing _ _ _ c.in_ok-word.ensures in
    let same = named_same c.args.dims.now c.args.entry.now c.args.earlier.now (table_view c.args.table.now) c.in_ok-name.name c.in_ok-word.word (value _ _ _ c.in_ok-name.ensures) (value _ _ _ c.in_ok-word.ensures) in
    handed_on _ _ c.in_err-method.field-0.0 _ _ c.from_residual-in_err-method.ensures.1
    (next _ _ _ _ (both_nothing _ _ keys (both_nothing _ _ name word)) (subst (Refused NoMemory c.in_err-method.field-0.0) (sym same) (refused _ _ _ _ c.in_err-method.ensures)))

pub returns : goal.returns
returns c =
    let keys = nothing _ _ _ c.in_ok-check_keys.ensures in
    let name = nothing _ _ _ c.in_ok-name.ensures in
    let word = nothing _ _ _ c.in_ok-word.ensures in
    let names = value _ _ _ c.in_ok-name.ensures in
    let words = value _ _ _ c.in_ok-word.ensures in
    let same = named_same c.args.dims.now c.args.entry.now c.args.earlier.now (table_view c.args.table.now) c.in_ok-name.name c.in_ok-word.word names words in
    accepted _ _ _ (both_nothing _ _ (both_nothing _ _ keys (both_nothing _ _ name word)) (same ∙ nothing _ _ _ c.in_ok-method.ensures))
    (declared_same c.args.dims.now c.args.entry.now c.args.earlier.now (table_view c.args.table.now) c.in_ok-name.name c.in_ok-word.word names words c.in_ok-method.method (value _ _ _ c.in_ok-method.ensures))

use Rattle.std.proofs.Common.{not, sym, ap, ◌∙◌}
use Rattle.cube_tables.specs.Tables.{key_of}
use Rattle.cube_tables.proofs.Turns.{check_fault, check_none}
use Rattle.cube_tables.proofs.Loops.{item_fault, item_next}
use Rattle.cube_policy.specs.PolicyFile.{unknown_level}
use Rattle.cube_policy.specs.declared.fault.PolicyFault.TheVariants.{Unknown}
use Rattle.cube_policy.proofs.Found.{level_told}
use Rattle.cube_policy.proofs.below.check_levels.Goals as goal

pub returns-then-is_none : goal.returns-then-is_none
returns-then-is_none c =
    let item = c.loop-dimension-item.result in
    item_fault (unknown_level c.args.dims.now c.args.entry.now) c.args.below.now _ _ c.loop-dimension.dimension-index item c.loop-dimension-test.true c.loop-dimension-item.is c.loop-dimension.invariant
    (check_fault _ _ _ _
    (level_told c.args.dims.now _ _ _ _ c.level_named.result _ c.level_named.ensures c.as_slice.ensures c.as_slice-in-loop-dimension.ensures c.is_none.ensures ∙ ap (λ b. not (not b)) c.if-is_none.true)
    (ap Unknown (sym (c.in_ok-key_text.ensures ∙ ap (key_of c.args.entry.now) c.as_slice-then-is_none.ensures))))

pub loop-dimension-preserved : goal.loop-dimension-preserved
loop-dimension-preserved c =
    let item = c.loop-dimension-item.result in
    item_next (unknown_level c.args.dims.now c.args.entry.now) c.args.below.now c.loop-dimension.dimension-index item c.loop-dimension-test.true c.loop-dimension-item.is c.loop-dimension.invariant
    (check_none _ _
    (level_told c.args.dims.now _ _ _ _ c.level_named.result _ c.level_named.ensures c.as_slice.ensures c.as_slice-in-loop-dimension.ensures c.is_none.ensures ∙ ap (λ b. not (not b)) c.if-is_none.false))

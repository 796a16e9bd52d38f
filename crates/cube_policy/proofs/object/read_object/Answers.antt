use Rattle.std.proofs.Common.{◌≡◌, codes, [], sym, subst, ◌∙◌}
use Rattle.toml.specs.View.{table_view}
use Rattle.cube_tables.specs.Tables.{under}
use Rattle.cube_tables.proofs.Turns.{Refused, first, next, both_nothing, nothing, value, refused, handed_on, accepted}
use Rattle.cube_policy.specs.PolicyFile.{below_faults, slice_faults, object_faults}
use Rattle.cube_policy.specs.declared.fault.PolicyFault.TheVariants.{NoMemory}
use Rattle.cube_policy.proofs.Objects.{place_same, object_same}
use Rattle.cube_policy.proofs.object.read_object.Goals as goal

pub returns-in_err-check_keys : goal.returns-in_err-check_keys
unfolding object_faults
returns-in_err-check_keys c =
    handed_on _ _ c.in_err-check_keys.field-0.0 _ _ c.from_residual.ensures.1
    (first _ _ _ _ (first _ _ _ _ (first _ _ _ _ (first _ _ _ _ (first _ _ _ _ (refused _ _ _ _ c.in_err-check_keys.ensures))))))

pub returns-in_err-measure : goal.returns-in_err-measure
unfolding object_faults
returns-in_err-measure c =
    let keys = nothing _ _ _ c.in_ok-check_keys.ensures in
    handed_on _ _ c.in_err-measure.field-0.0 _ _ c.from_residual-in_err-measure.ensures.1
    (first _ _ _ _ (first _ _ _ _ (first _ _ _ _ (first _ _ _ _ (next _ _ _ _ keys (refused _ _ _ _ c.in_err-measure.ensures))))))

pub returns-in_err-levels : goal.returns-in_err-levels
unfolding object_faults
returns-in_err-levels c =
    let t = table_view c.args.table.now in
    let keys = nothing _ _ _ c.in_ok-check_keys.ensures in
    let measure = nothing _ _ _ c.in_ok-measure.ensures in
    handed_on _ _ c.in_err-levels.field-0.0 _ _ c.from_residual-in_err-levels.ensures.1
    (first _ _ _ _ (first _ _ _ _ (first _ _ _ _ (next _ _ _ _ (both_nothing _ _ keys measure)
    (subst (λ k. Refused NoMemory c.in_err-levels.field-0.0 (below_faults c.args.dims.now k (under (codes "below") t))) c.in_ok-below.ensures (refused _ _ _ _ c.in_err-levels.ensures))))))

pub returns-in_err-slice : goal.returns-in_err-slice
unfolding object_faults
returns-in_err-slice c =
    let t = table_view c.args.table.now in
    let keys = nothing _ _ _ c.in_ok-check_keys.ensures in
    let measure = nothing _ _ _ c.in_ok-measure.ensures in
    let levels = subst (λ k. below_faults c.args.dims.now k (under (codes "below") t) ≡ []) c.in_ok-below.ensures (nothing _ _ _ c.in_ok-levels.ensures) in
    handed_on _ _ c.in_err-slice.field-0.0 _ _ c.from_residual-in_err-slice.ensures.1
    (first _ _ _ _ (first _ _ _ _ (next _ _ _ _ (both_nothing _ _ (both_nothing _ _ keys measure) levels)
    (subst (λ k. Refused NoMemory c.in_err-slice.field-0.0 (slice_faults c.args.dims.now k (under (codes "slice") t))) c.in_ok-within.ensures (refused _ _ _ _ c.in_err-slice.ensures)))))

pub returns-in_err-fewer : goal.returns-in_err-fewer
unfolding object_faults
returns-in_err-fewer c =
    let t = table_view c.args.table.now in
    let keys = nothing _ _ _ c.in_ok-check_keys.ensures in
    let measure = nothing _ _ _ c.in_ok-measure.ensures in
    let levels = subst (λ k. below_faults c.args.dims.now k (under (codes "below") t) ≡ []) c.in_ok-below.ensures (nothing _ _ _ c.in_ok-levels.ensures) in
    let slice = subst (λ k. slice_faults c.args.dims.now k (under (codes "slice") t) ≡ []) c.in_ok-within.ensures (nothing _ _ _ c.in_ok-slice.ensures) in
    handed_on _ _ c.in_err-fewer.field-0.0 _ _ c.from_residual-in_err-fewer.ensures.1
    (first _ _ _ _ (next _ _ _ _ (both_nothing _ _ (both_nothing _ _ (both_nothing _ _ keys measure) levels) slice) (refused _ _ _ _ c.in_err-fewer.ensures)))

pub returns-in_err-check_place : goal.returns-in_err-check_place
unfolding object_faults
returns-in_err-check_place c =
    let t = table_view c.args.table.now in
    let keys = nothing _ _ _ c.in_ok-check_keys.ensures in
    let measure = nothing _ _ _ c.in_ok-measure.ensures in
    let levels = subst (λ k. below_faults c.args.dims.now k (under (codes "below") t) ≡ []) c.in_ok-below.ensures (nothing _ _ _ c.in_ok-levels.ensures) in
    let slice = subst (λ k. slice_faults c.args.dims.now k (under (codes "slice") t) ≡ []) c.in_ok-within.ensures (nothing _ _ _ c.in_ok-slice.ensures) in
    let fewer = nothing _ _ _ c.in_ok-fewer.ensures in
    let place = place_same c.args.methods.now c.args.entry.now _ c.in_ok-measure.measure _ c.in_ok-levels.levels c.as_slice.result.now c.method_of.result (value _ _ _ c.in_ok-measure.ensures) (value _ _ _ c.in_ok-levels.ensures) c.as_slice.ensures c.method_of.ensures in
    handed_on _ _ c.in_err-check_place.field-0.0 _ _ c.from_residual-in_err-check_place.ensures.1
    (next _ _ _ _ (both_nothing _ _ (both_nothing _ _ (both_nothing _ _ (both_nothing _ _ keys measure) levels) slice) fewer)
    (subst (Refused NoMemory c.in_err-check_place.field-0.0) (sym place) (refused _ _ _ _ c.in_err-check_place.ensures)))

pub returns : goal.returns
unfolding object_faults
returns c =
    let t = table_view c.args.table.now in
    let keys = nothing _ _ _ c.in_ok-check_keys.ensures in
    let measure = nothing _ _ _ c.in_ok-measure.ensures in
    let levels = subst (λ k. below_faults c.args.dims.now k (under (codes "below") t) ≡ []) c.in_ok-below.ensures (nothing _ _ _ c.in_ok-levels.ensures) in
    let slice = subst (λ k. slice_faults c.args.dims.now k (under (codes "slice") t) ≡ []) c.in_ok-within.ensures (nothing _ _ _ c.in_ok-slice.ensures) in
    let fewer = nothing _ _ _ c.in_ok-fewer.ensures in
    let place = place_same c.args.methods.now c.args.entry.now _ c.in_ok-measure.measure _ c.in_ok-levels.levels c.as_slice.result.now c.method_of.result (value _ _ _ c.in_ok-measure.ensures) (value _ _ _ c.in_ok-levels.ensures) c.as_slice.ensures c.method_of.ensures in
    accepted _ _ _ (both_nothing _ _ (both_nothing _ _ (both_nothing _ _ (both_nothing _ _ (both_nothing _ _ keys measure) levels) slice) fewer) (place ∙ nothing _ _ _ c.in_ok-check_place.ensures))
    (object_same c.args.dims.now t c.in_ok-measure.measure c.in_ok-levels.levels c.in_ok-slice.slice c.in_ok-fewer.fewer (value _ _ _ c.in_ok-measure.ensures) (value _ _ _ c.in_ok-levels.ensures) (value _ _ _ c.in_ok-slice.ensures) (value _ _ _ c.in_ok-fewer.ensures))

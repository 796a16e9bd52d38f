use Rattle.std.proofs.Common.{ℕ, List, length, filter, sym, ap, ◌∙◌, arith}
use Rattle.cube_model.specs.declared.answer.Row.{Row}
use Rattle.cube_source.specs.Blocks.{bare}
use Rattle.cube_source.specs.Bounds.{is_below_bound}
use Rattle.cube_source.proofs.Counted.{cells_counted, no_cells, few_cells}
use Rattle.cube_source.proofs.slices.count_among.Goals as goal

pub returns-then-not-is_below-clause-count : goal.returns-then-not-is_below-clause-count
returns-then-not-is_below-clause-count c = no_cells (bare c.args.core.now) c.args.objects.now c.args.measure c.args.levels.now (sym c.is_below.ensures ∙ c.if-not-is_below.true)

pub count_below-requires-clause-bounds : goal.count_below-requires-clause-bounds
count_below-requires-clause-bounds c = ap length c.as_slice.ensures.value ∙ c.in_ok-bounds.ensures.long

pub returns-clause-count : goal.returns-clause-count
returns-clause-count c =
    let count = λ (bounds : List ℕ) (rows : List Row). length (filter (is_below_bound (bare c.args.core.now) bounds) rows) in
    c.count_below.ensures.count
    ∙ ap (λ (bs : List ℕ). count bs c.args.rows.now) c.as_slice.ensures.value
    ∙ ap (λ (rs : List Row). count c.in_ok-bounds.bounds.items rs) c.requires.rows
    ∙ cells_counted c.args.core.now c.args.objects.now c.args.measure c.args.levels.now c.in_ok-bounds.bounds.items c.dims-rules.ensures.rules c.in_ok-bounds.ensures

pub returns-clause-small : goal.returns-clause-small
returns-clause-small c =
    let same = returns-clause-count c in
    let few = few_cells (bare c.args.core.now) c.args.objects.now c.args.measure c.args.levels.now in
    let bound = c.dims-rules.ensures.rules.few_points in
    omega (arith, same, few, bound)

use Rattle.std.specs.List.{sum_by}
use Rattle.std.proofs.Common.{length, map, ap, ◌∙◌, arith}
use Rattle.std.proofs.lemmas.List.{take_all}
use Rattle.std.proofs.lemmas.List.Sums.{sum_by_more}
use Rattle.cube_model.specs.Dims.{plains}
use Rattle.cube_source.specs.Blocks.{bare}
use Rattle.cube_source.specs.Counts.{count_over}
use Rattle.cube_source.proofs.Adding.{cuboids_counted}
use Rattle.cube_source.proofs.Counted.{all_cuboids, top_levels, top_count}
use Rattle.cube_source.proofs.Keys.{below_levels}
use Rattle.cube_source.proofs.counting.count_lattice.Goals as goal

pub count_at-requires-clause-levels : goal.count_at-requires-clause-levels
count_at-requires-clause-levels c = below_levels (plains c.args.core.now.dims) (map (λ d. d.levels) (plains c.args.core.now.dims)) c.as_slice-levels-items.result.now c.levels.levels-index c.levels-item.result (top_levels (plains c.args.core.now.dims)) (c.as_slice-levels-items.ensures ∙ all_cuboids c.args.core.now.dims c.dims-dims.result.now c.in_ok-cuboids.cuboids c.dims-dims.ensures.dims c.in_ok-cuboids.ensures) c.levels-test.true c.levels-item.is

pub overflow_add-total : goal.overflow_add-total
overflow_add-total c =
    let few = top_count (plains c.args.core.now.dims) in
    let cuboids = c.dims-dims.ensures.rules.dims.few_cuboids in
    let size = ap length (c.as_slice-levels-items.ensures ∙ all_cuboids c.args.core.now.dims c.dims-dims.result.now c.in_ok-cuboids.cuboids c.dims-dims.ensures.dims c.in_ok-cuboids.ensures) in
    let so_far = c.levels.invariant.small in
    let own = c.in_ok-total.ensures.small in
    omega (arith, few, cuboids, size, so_far, own, c.levels-test.true)

pub levels-preserved : goal.levels-preserved
levels-preserved c =
    let cells = count_over (bare c.args.core.now) c.args.objects.now c.args.measures.now in
    let next = sum_by_more cells c.as_slice-levels-items.result.now c.levels.levels-index c.levels-item.result c.levels-test.true in
    let same = ap cells c.levels-item.is in
    let so_far = c.levels.invariant.counted in
    let bound = c.levels.invariant.small in
    let own = c.in_ok-total.ensures.count in
    let small = c.in_ok-total.ensures.small in
    record { counted = omega (arith, next, same, so_far, own); small = omega (arith, bound, small) }

pub returns : goal.returns
returns c =
    let few = top_count (plains c.args.core.now.dims) in
    let cuboids = c.dims-dims.ensures.rules.dims.few_cuboids in
    let all = c.as_slice-levels-items.ensures ∙ all_cuboids c.args.core.now.dims c.dims-dims.result.now c.in_ok-cuboids.cuboids c.dims-dims.ensures.dims c.in_ok-cuboids.ensures in
    let size = ap length all in
    let end = c.levels.auto.levels-index-end in
    let bound = c.levels.invariant.small in
    let count = c.levels.invariant.counted
    ∙ ap (sum_by (count_over (bare c.args.core.now) c.args.objects.now c.args.measures.now)) (take_all c.levels.levels-index c.as_slice-levels-items.result.now c.levels-test.false ∙ all)
    ∙ cuboids_counted (bare c.args.core.now) c.args.core.now.dims c.args.objects.now c.args.measures.now c.requires.objects in
    record { count = count; small = omega (arith, few, cuboids, size, end, bound) }

use Rattle.std.proofs.Common.{ℕ, List, length, sym, ap, ◌∙◌, subst, arith}
use Rattle.std.proofs.lemmas.List.{take_all}
use Rattle.std.proofs.lemmas.List.Sums.{sum_by_more}
use Rattle.cube_source.specs.Blocks.{bare, AreBlocks}
use Rattle.cube_source.specs.Counts.{count_over}
use Rattle.cube_source.specs.Objects.{cells_over}
use Rattle.cube_source.proofs.Adding.{none_counted}
use Rattle.cube_source.proofs.slices.count_at.Goals as goal

pub returns-then-not-is_any_below-clause-count : goal.returns-then-not-is_any_below-clause-count
returns-then-not-is_any_below-clause-count c = none_counted (bare c.args.core.now) c.args.objects.now c.args.measures.now c.args.levels.now (sym c.is_any_below.ensures ∙ c.if-not-is_any_below.true)

pub count_among-requires-clause-rows : goal.count_among-requires-clause-rows
count_among-requires-clause-rows c = c.as_slice.ensures ∙ c.in_ok-rows.ensures.rows

pub count_among-requires-clause-places : goal.count_among-requires-clause-places
count_among-requires-clause-places c = subst (AreBlocks (length c.args.core.now.shape.points)) (sym c.as_slice.ensures) c.in_ok-rows.ensures.places

pub overflow_add-total : goal.overflow_add-total
overflow_add-total c =
    let so_far = c.measures.invariant.small in
    let own = c.in_ok-total.ensures.small in
    omega (arith, so_far, own, c.measures-test.true, c.requires.few)

pub measures-preserved : goal.measures-preserved
measures-preserved c =
    let cells = λ (m : ℕ). length (cells_over (bare c.args.core.now) c.args.objects.now m c.args.levels.now) in
    let next = sum_by_more cells c.args.measures.now c.measures.measure-index 0 c.measures-test.true in
    let so_far = c.measures.invariant.counted in
    let bound = c.measures.invariant.small in
    let own = c.in_ok-total.ensures.count in
    let small = c.in_ok-total.ensures.small in
    record { counted = omega (arith, next, so_far, own); small = omega (arith, bound, small) }

pub returns : goal.returns
returns c =
    let end = c.measures.auto.measure-index-end in
    let bound = c.measures.invariant.small in
    record {
      count = c.measures.invariant.counted ∙ ap (λ (ms : List ℕ). count_over (bare c.args.core.now) c.args.objects.now ms c.args.levels.now) (take_all c.measures.measure-index c.args.measures.now c.measures-test.false);
      small = omega (arith, end, bound, c.requires.few);
    }

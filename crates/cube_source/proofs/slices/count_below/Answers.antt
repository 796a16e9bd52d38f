use Rattle.std.specs.List.{list_any, All}
use Rattle.std.proofs.Common.{◌≡◌, ℕ, ◌<◌, ◌∷◌, [], List, length, filter, take, get_or, sym, ap, ◌∙◌, subst, arith, ltb}
use Rattle.std.proofs.lemmas.List.{take_all, length-append}
use Rattle.cube_model.specs.declared.answer.Row.{Row}
use Rattle.cube_source.specs.Blocks.{bare}
use Rattle.cube_source.specs.Bounds.{is_below_bound}
use Rattle.cube_source.proofs.Fewer.{counted}
use Rattle.cube_source.proofs.Growing.{passed_more, failed_more}
use Rattle.cube_source.proofs.Rows.{block_at, block_places}
use Rattle.cube_source.proofs.slices.count_below.Goals as goal
use Rattle.cube_source.proofs.slices.count_below.Goals.{then-is_below_any, else-is_below_any}

pub count_row-requires : goal.count_row-requires
count_row-requires c = block_at (length c.args.core.now.shape.points) c.args.rows.now c.rows.row-index c.row-item.result c.requires.rows c.rows-test.true c.row-item.is

pub is_below_any-requires : goal.is_below_any-requires
is_below_any-requires c =
    subst (λ (n : ℕ). All (λ place. place < n) c.as_slice.result.now) (sym c.requires.bounds)
    (block_places (length c.args.core.now.shape.points) c.args.rows.now c.rows.row-index c.row-item.result c.as_slice.result.now c.requires.rows c.rows-test.true c.row-item.is c.as_slice.ensures)

pub rows-preserved : goal.rows-preserved
rows-preserved c =
    let test = is_below_bound (bare c.args.core.now) c.args.bounds.now in
    let own : test c.row-item.result ≡ c.is_below_any.result =
    ap (λ (n : ℕ). list_any (λ i. ltb n (get_or c.args.bounds.now i 0)) c.row-item.result.places) (sym (counted (bare c.args.core.now) c.row-item.result.places c.count_row.result c.count_row.ensures.count))
    ∙ ap (list_any (λ i. ltb c.count_row.result (get_or c.args.bounds.now i 0))) (sym c.as_slice.ensures)
    ∙ sym c.is_below_any.ensures in
    let so_far = c.rows.invariant.counted in
    let bound = c.rows.invariant.small in
    elim c.if-is_below_any.branch [
      | then-is_below_any w ↦ (
          let next = ap length (passed_more test c.args.rows.now c.rows.row-index c.row-item.result c.rows-test.true c.row-item.is (own ∙ w.if-is_below_any.true)) ∙ length-append (filter test (take c.rows.row-index c.args.rows.now)) (c.row-item.result ∷ []) in
          let now = w.total-is in
          record { counted = omega (arith, next, so_far, now); small = omega (arith, bound, now) })
      | else-is_below_any w ↦ (
          let next = ap length (failed_more test c.args.rows.now c.rows.row-index c.row-item.result c.rows-test.true c.row-item.is (own ∙ w.if-is_below_any.false)) in
          let now = w.total-is in
          record { counted = omega (arith, next, so_far, now); small = omega (arith, bound, now) })
    ]

pub returns : goal.returns
returns c =
    let test = is_below_bound (bare c.args.core.now) c.args.bounds.now in
    record { count = c.rows.invariant.counted ∙ ap (λ (rs : List Row). length (filter test rs)) (take_all c.rows.row-index c.args.rows.now c.rows-test.false) }

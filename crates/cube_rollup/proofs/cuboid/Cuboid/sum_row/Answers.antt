use Rattle.std.specs.List.{sum_by}
use Rattle.std.proofs.Common.{◌≡◌, ◌+◌, ℤ, ◌+ℤ◌, take, get_or, sym, ap, subst, ◌∙◌, arith, w64, to_z, of_z}
use Rattle.std.proofs.lemmas.Int.{to_z-of_z}
use Rattle.cube_model.specs.Cores.{IsSumOf}
use Rattle.cube_rollup.specs.Cuboids.{sums_of}
use Rattle.cube_core.specs.Tallies.{AreBounded}
use Rattle.cube_rollup.proofs.Cells.{next}
use Rattle.cube_rollup.proofs.cuboid.Cuboid.sum_row.Goals as goal

pub overflow_add-sum : goal.overflow_add-sum
overflow_add-sum g c =
    let b = c.cells-bounds.ensures.bounded in
    let more = next c.args.self.now.cells c.args.row.now.places c.as_slice-place-items.result.now c.cells.place-index (to_z w64 c.cells.sum-bits) c.cell-sum.result b c.requires c.as_slice-place-items.ensures c.cells-test.true c.cell-sum.ensures.sum c.cells.invariant.summed (c.cells.invariant.bounded b) in
    rw (to_z-of_z w64 c.cell-sum.result more.value_fits) more.fits

pub cells-preserved : goal.cells-preserved
cells-preserved g c =
    let inv = c.cells.invariant in
    let more = λ (b : AreBounded (sums_of c.args.self.now.cells)). next c.args.self.now.cells c.args.row.now.places c.as_slice-place-items.result.now c.cells.place-index (to_z w64 c.cells.sum-bits) c.cell-sum.result b c.requires c.as_slice-place-items.ensures c.cells-test.true c.cell-sum.ensures.sum inv.summed (inv.bounded b) in
    let one = more c.cells-bounds.ensures.bounded in
    let back = to_z-of_z w64 c.cell-sum.result one.value_fits in
    let whole : to_z w64 (of_z w64 (to_z w64 c.cells.sum-bits +ℤ to_z w64 (of_z w64 c.cell-sum.result))) ≡ to_z w64 c.cells.sum-bits +ℤ c.cell-sum.result
    = ap (λ (z : ℤ). to_z w64 (of_z w64 (to_z w64 c.cells.sum-bits +ℤ z))) back ∙ to_z-of_z w64 (to_z w64 c.cells.sum-bits +ℤ c.cell-sum.result) one.fits in
    record {
      summed = whole ∙ one.total;
      bounded = λ b. subst (IsSumOf (sum_by (λ i. get_or b.facts i 0) (take (c.cells.place-index + 1) c.args.row.now.places))) (sym whole) (more b).bound;
      counted = omega (arith, inv.counted, c.cell-sum.ensures.step);
    }

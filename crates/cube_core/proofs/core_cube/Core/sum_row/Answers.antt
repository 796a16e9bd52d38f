use Rattle.std.specs.List.{sum_by}
use Rattle.std.proofs.Common.{◌≡◌, ℕ, ◌+◌, ◌<◌, List, ℤ, pos, ◌+ℤ◌, [], length, take, get_or, ap, subst, sym, ◌∙◌, arith, w64, to_z, of_z}
use Rattle.std.proofs.lemmas.Int.{ints, to_z-of_z}
use Rattle.std.proofs.lemmas.List.{take_all}
use Rattle.cube_model.specs.Cores.{Core, IsCore, IsSumOf}
use Rattle.cube_model.specs.Requests.{total}
use Rattle.cube_core.specs.Rows.{ArePlaces}
use Rattle.cube_core.proofs.Totals.{IsMore, few_at_places, sum_more, place_below, length-values, value_bound}
use Rattle.cube_core.proofs.core_cube.Core.sum_row.Goals as goal

-- what the value that is read at the next place makes of the sum
next : (core : Core) (m : ℕ) (places items : List ℕ) (values : List ℤ) (k : ℕ) (s v : ℤ) → IsCore core → m < length core.dims.measures → ArePlaces (length core.shape.points) places → items ≡ places → k < length items
    → values ≡ get_or core.cube m [] → v ≡ get_or values (get_or items k 0) (pos 0) → s ≡ total (get_or core.cube m []) (take k places) → IsSumOf (sum_by (λ i. get_or core.shape.facts i 0) (take k places)) s
    → IsMore core.shape.facts places (get_or core.cube m []) k s v
next core m places items values k s v ok measure are e l own is so_far bound =
    let value : v ≡ get_or (get_or core.cube m []) (get_or items k 0) (pos 0) = is ∙ ap (λ (vs : List ℤ). get_or vs (get_or items k 0) (pos 0)) own in
    let small = subst (IsSumOf (get_or core.shape.facts (get_or items k 0) 0)) (sym value) (value_bound core m (get_or items k 0) ok measure (place_below (length core.shape.points) places items k are e l)) in
    sum_more core.shape.facts places items (get_or core.cube m []) k s v e l (few_at_places core places ok are) bound small value so_far

pub read-sum-requires : goal.read-sum-requires
read-sum-requires g c =
    let long = length-values c.args.self.now c.args.measure c.values-values.ensures.rules c.requires.measure in
    let size = ap length c.values-values.ensures.values in
    let below = place_below (length c.args.self.now.shape.points) c.args.row.now.places c.as_slice-place-items.result.now c.places.place-index c.requires.places c.as_slice-place-items.ensures c.places-test.true in
    omega (arith, long, size, below)

pub overflow_add-sum : goal.overflow_add-sum
overflow_add-sum g c =
    let inv = c.places.invariant in
    let more = next c.args.self.now c.args.measure c.args.row.now.places c.as_slice-place-items.result.now c.values-values.result.now c.places.place-index (to_z w64 c.places.sum-bits) c.read-sum.result c.values-values.ensures.rules c.requires.measure c.requires.places c.as_slice-place-items.ensures c.places-test.true c.values-values.ensures.values c.read-sum.ensures.value inv.summed inv.bounded in
    rw (to_z-of_z w64 c.read-sum.result more.value_fits) more.fits

pub places-preserved : goal.places-preserved
places-preserved g c =
    let inv = c.places.invariant in
    let more = next c.args.self.now c.args.measure c.args.row.now.places c.as_slice-place-items.result.now c.values-values.result.now c.places.place-index (to_z w64 c.places.sum-bits) c.read-sum.result c.values-values.ensures.rules c.requires.measure c.requires.places c.as_slice-place-items.ensures c.places-test.true c.values-values.ensures.values c.read-sum.ensures.value inv.summed inv.bounded in
    let back = to_z-of_z w64 c.read-sum.result more.value_fits in
    let whole : to_z w64 (of_z w64 (to_z w64 c.places.sum-bits +ℤ to_z w64 (of_z w64 c.read-sum.result))) ≡ to_z w64 c.places.sum-bits +ℤ c.read-sum.result
    = ap (λ (z : ℤ). to_z w64 (of_z w64 (to_z w64 c.places.sum-bits +ℤ z))) back ∙ to_z-of_z w64 (to_z w64 c.places.sum-bits +ℤ c.read-sum.result) more.fits in
    record {
      summed = whole ∙ more.total;
      bounded = subst (IsSumOf (sum_by (λ i. get_or c.args.self.now.shape.facts i 0) (take (c.places.place-index + 1) c.args.row.now.places))) (sym whole) more.bound;
      counted = omega (arith, inv.counted, c.read-sum.ensures.step);
    }

pub returns : goal.returns
returns g c =
    let inv = c.places.invariant in
    let size = ap length c.as_slice-place-items.ensures in
    let all = take_all c.places.place-index c.args.row.now.places (omega (arith, size, c.places-test.false)) in
    let few = few_at_places c.args.self.now c.args.row.now.places c.values-values.ensures.rules c.requires.places in
    let bounded : IsSumOf (sum_by (λ i. get_or c.args.self.now.shape.facts i 0) c.args.row.now.places) (to_z w64 c.places.sum-bits) = rw all at inv.bounded in
    record {
      sum = inv.summed ∙ ap (total (get_or c.args.self.now.cube c.args.measure [])) all;
      bound = (omega (arith, ints, few, bounded.0), omega (arith, ints, few, bounded.1));
      steps = omega (arith, inv.counted, size, c.places-test.false, c.places.auto.place-index-end);
    }

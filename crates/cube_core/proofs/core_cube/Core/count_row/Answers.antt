use Rattle.std.specs.List.{sum_by}
use Rattle.std.proofs.Common.{ℕ, ◌+◌, List, pos, length, get_or, ap, ap₂, sym, ◌∙◌, arith}
use Rattle.std.proofs.lemmas.List.{take_all}
use Rattle.std.proofs.lemmas.List.Sums.{sum_by_more, sum_by_more_le}
use Rattle.cube_core.proofs.Totals.{few_at_places, total-facts}
use Rattle.cube_core.proofs.core_cube.Core.count_row.Goals as goal

pub overflow_add-count : goal.overflow_add-count
overflow_add-count c =
    let size = ap length c.as_slice-place-items.ensures in
    let few = few_at_places c.args.self.now c.args.row.now.places c.shape.ensures.rules c.requires in
    let most = sum_by_more_le (λ i. get_or c.args.self.now.shape.facts i 0) c.args.row.now.places c.places.place-index 0 (omega (arith, size, c.places-test.true)) in
    let facts = c.as_slice-facts.ensures ∙ ap (λ s. s.facts) c.shape.ensures.shape in
    let own = ap₂ (λ (fs is : List ℕ). get_or fs (get_or is c.places.place-index 0) 0) facts c.as_slice-place-items.ensures in
    omega (arith, few, most, own, c.places.invariant)

-- the number of facts that is read, behind those so far
pub places-preserved : goal.places-preserved
places-preserved c =
    let size = ap length c.as_slice-place-items.ensures in
    let more = sum_by_more (λ i. get_or c.args.self.now.shape.facts i 0) c.args.row.now.places c.places.place-index 0 (omega (arith, size, c.places-test.true)) in
    let facts = c.as_slice-facts.ensures ∙ ap (λ s. s.facts) c.shape.ensures.shape in
    let own = ap₂ (λ (fs is : List ℕ). get_or fs (get_or is c.places.place-index 0) 0) facts c.as_slice-place-items.ensures in
    ap₂ (λ (a b : ℕ). a + b) c.places.invariant own ∙ sym more

pub returns : goal.returns
returns c =
    let size = ap length c.as_slice-place-items.ensures in
    let all = take_all c.places.place-index c.args.row.now.places (omega (arith, size, c.places-test.false)) in
    let few = few_at_places c.args.self.now c.args.row.now.places c.shape.ensures.rules c.requires in
    let count = c.places.invariant ∙ ap (sum_by (λ i. get_or c.args.self.now.shape.facts i 0)) all in
    record {
      count = ap pos count ∙ total-facts c.args.self.now.shape.facts c.args.row.now.places;
      small = omega (arith, few, count);
    }

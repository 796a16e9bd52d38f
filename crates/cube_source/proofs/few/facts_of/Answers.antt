use Rattle.std.proofs.Common.{◌≡◌, ℕ, List, map, filter, sum, get_or, sym, ap, ◌∙◌, arith}
use Rattle.cube_model.specs.Cubes.{count_from, covers}
use Rattle.cube_source.specs.Blocks.{bare}
use Rattle.cube_source.proofs.FewPlaces.{sum_push, entry_small}
use Rattle.cube_source.proofs.Growing.{number_passed, number_failed}
use Rattle.cube_source.proofs.few.facts_of.Goals as goal
use Rattle.cube_source.proofs.few.facts_of.Goals.{then-covers, else-covers}

pub places-preserved : goal.places-preserved
places-preserved c =
    let facts = λ (i : ℕ). get_or c.args.core.now.shape.facts i 0 in
    let test = covers (bare c.args.core.now) c.args.cell.now in
    let here : get_or c.as_slice-facts.result.now c.places.place 0 ≡ facts c.places.place = ap (λ (xs : List ℕ). get_or xs c.places.place 0) (c.as_slice-facts.ensures ∙ ap (λ s. s.facts) c.shape.ensures.shape) in
    let entry = entry_small c.args.core.now.shape.facts c.places.place in
    let few = c.dims-rules.ensures.rules.few_facts in
    let so_far = c.places.invariant.counted in
    let bound = c.places.invariant.small in
    elim c.if-covers.branch [
      | then-covers w ↦ (
          let next = ap (λ (is : List ℕ). sum (map facts is)) (number_passed test c.places.place (sym c.covers.ensures ∙ w.if-covers.true)) ∙ sum_push facts (filter test (count_from 0 c.places.place)) c.places.place in
          let now = w.total-is in
          record { counted = omega (arith, next, so_far, now, here); small = omega (arith, bound, now, here, entry, few) })
      | else-covers w ↦ (
          let next = ap (λ (is : List ℕ). sum (map facts is)) (number_failed test c.places.place (sym c.covers.ensures ∙ w.if-covers.false)) in
          let now = w.total-is in
          record { counted = omega (arith, next, so_far, now); small = omega (arith, bound, now) })
    ]

use Rattle.std.proofs.Common.{◌≡◌, ℕ, ◌∷◌, [], length, filter, sym, ap, ◌∙◌, arith}
use Rattle.std.proofs.lemmas.List.{length-append}
use Rattle.cube_model.specs.Cubes.{count_from}
use Rattle.cube_model.specs.Protection.{is_guarded}
use Rattle.cube_source.specs.Blocks.{bare}
use Rattle.cube_source.specs.Objects.{of_measure}
use Rattle.cube_source.proofs.Growing.{number_passed, number_failed}
use Rattle.cube_source.proofs.counting.count_parity.Goals as goal
use Rattle.cube_source.proofs.counting.count_parity.Goals.{then-is_guarded, else-is_guarded}

pub places-preserved : goal.places-preserved
places-preserved c =
    let test = is_guarded (bare c.args.core.now) (of_measure c.args.measure c.args.objects.now) in
    let so_far = c.places.invariant.counted in
    let bound = c.places.invariant.small in
    elim c.if-is_guarded.branch [
      | then-is_guarded w ↦ (
          let next = ap length (number_passed test c.places.place (sym c.is_guarded.ensures ∙ w.if-is_guarded.true)) ∙ length-append (filter test (count_from 0 c.places.place)) (c.places.place ∷ []) in
          let now = w.total-is in
          record { counted = omega (arith, next, so_far, now); small = omega (arith, bound, now) })
      | else-is_guarded w ↦ (
          let next = ap length (number_failed test c.places.place (sym c.is_guarded.ensures ∙ w.if-is_guarded.false)) in
          let now = w.total-is in
          record { counted = omega (arith, next, so_far, now); small = omega (arith, bound, now) })
    ]

pub returns-clause-small : goal.returns-clause-small
returns-clause-small c =
    let size = c.len-place-end.ensures.len in
    let end = c.places.auto.place-end in
    let bound = c.places.invariant.small in
    let few = c.dims-rules.ensures.rules.few_points in
    omega (arith, size, end, bound, few)

pub returns-clause-count : goal.returns-clause-count
returns-clause-count c =
    let size = c.len-place-end.ensures.len in
    let end = c.places.auto.place-end in
    let all : c.places.place ≡ length c.args.core.now.shape.points = omega (arith, size, end, c.places-test.false) in
    c.places.invariant.counted ∙ ap (λ (n : ℕ). length (filter (is_guarded (bare c.args.core.now) (of_measure c.args.measure c.args.objects.now)) (count_from 0 n))) all

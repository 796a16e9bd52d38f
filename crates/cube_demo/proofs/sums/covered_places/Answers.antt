use Rattle.std.proofs.Common.{◌≡◌, ℕ, List, [], ◌∷◌, ◌++◌, length, filter, sym, ap, ◌∙◌, arith}
use Rattle.cube_model.specs.Cubes.{covers, count_from}
use Rattle.cube_source.specs.Blocks.{bare}
use Rattle.cube_source.proofs.Growing.{number_passed, number_failed}
use Rattle.cube_demo.proofs.Totals.{covered_is, filter_few, filter_below}
use Rattle.cube_demo.proofs.sums.covered_places.Goals as goal
use Rattle.cube_demo.proofs.sums.covered_places.Goals.{then-covers+in_ok-push, else-covers}

pub places-preserved : goal.places-preserved
places-preserved c =
    let test = covers (bare c.args.core.now) c.args.cell.now in
    elim c.if-covers.branch [
      | then-covers+in_ok-push w ↦ w.found-is ∙ w.in_ok-push.ensures.ok ∙ ap (λ (ps : List ℕ). ps ++ c.places.place ∷ []) c.places.invariant ∙ sym (number_passed test c.places.place (sym c.covers.ensures ∙ w.if-covers.true))
      | else-covers w ↦ w.found-is ∙ c.places.invariant ∙ sym (number_failed test c.places.place (sym c.covers.ensures ∙ w.if-covers.false))
    ]

pub returns-clause-places : goal.returns-clause-places
returns-clause-places c = λ p.
    let size = c.len-place-end.ensures.len in
    let end = c.places.auto.place-end in
    let all : c.places.place ≡ length c.args.core.now.shape.points = omega (arith, size, end, c.places-test.false) in
    covered_is c.args.core.now p c.args.cell.now c.places.found (c.places.invariant ∙ ap (λ (n : ℕ). filter (covers (bare c.args.core.now) c.args.cell.now) (count_from 0 n)) all)

pub returns-clause-below : goal.returns-clause-below
returns-clause-below c =
    let size = c.len-place-end.ensures.len in
    let end = c.places.auto.place-end in
    let all : c.places.place ≡ length c.args.core.now.shape.points = omega (arith, size, end, c.places-test.false) in
    let test = covers (bare c.args.core.now) c.args.cell.now in
    filter_below test (length c.args.core.now.shape.points) c.places.found (c.places.invariant ∙ ap (λ (n : ℕ). filter test (count_from 0 n)) all)

pub returns-clause-few : goal.returns-clause-few
returns-clause-few c =
    let size = c.len-place-end.ensures.len in
    let most = c.len-place-end.ensures.rules.few_points in
    let end = c.places.auto.place-end in
    let few = filter_few (covers (bare c.args.core.now) c.args.cell.now) c.places.place in
    let same = ap length c.places.invariant in
    omega (arith, size, most, end, few, same)

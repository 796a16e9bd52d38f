use Rattle.std.proofs.Common.{ℕ, false, not, ◌&&◌, length, get_or, ap, sym, ◌∙◌, arith}
use Rattle.std.proofs.lemmas.Bool.{and_from}
use Rattle.cube_model.specs.Protection as protection
use Rattle.cube_source.specs.Blocks.{bare}
use Rattle.cube_source.specs.Objects.{of_measure}
use Rattle.cube_source.proofs.Steps.{first_number, no_number}
use Rattle.cube_source.proofs.judging.unmixed_place.Goals as goal

pub returns-then-not-mixed-place : goal.returns-then-not-mixed-place
returns-then-not-mixed-place c =
    let test = λ (k : ℕ). protection.is_guarded (bare c.args.core.now) (of_measure c.args.measure c.args.objects.now) k && not (get_or c.args.mixed.now k false) in
    let size = c.len-place-end.ensures.len in
    sym (first_number test 0 (length c.args.core.now.shape.points) c.places.place (omega arith) (omega (arith, size, c.places-test.true)) c.places.invariant
    (and_from (protection.is_guarded (bare c.args.core.now) (of_measure c.args.measure c.args.objects.now) c.places.place) (not (get_or c.args.mixed.now c.places.place false))
    (sym c.is_guarded.ensures ∙ c.if-is_guarded.true) (ap not c.if-not-mixed-place.true)))

pub returns : goal.returns
returns c =
    let test = λ (k : ℕ). protection.is_guarded (bare c.args.core.now) (of_measure c.args.measure c.args.objects.now) k && not (get_or c.args.mixed.now k false) in
    let size = c.len-place-end.ensures.len in
    sym (no_number test 0 (length c.args.core.now.shape.points) (λ j l. c.places.invariant j (omega (arith, l, size, c.places-test.false))))

use Rattle.std.proofs.Common.{ℕ, false, not, ◌&&◌, length, get_or, sym, ap, ◌∙◌, arith}
use Rattle.std.proofs.lemmas.Bool.{and_from}
use Rattle.cube_model.specs.Protection.{in_slice}
use Rattle.cube_source.specs.Blocks.{bare}
use Rattle.cube_source.proofs.Steps.{some_number, none_of}
use Rattle.cube_source.proofs.judging.any_unmixed.Goals as goal

pub returns-then-in_slice : goal.returns-then-in_slice
returns-then-in_slice c =
    let test = λ (k : ℕ). not (get_or c.args.mixed.now k false) && in_slice (bare c.args.core.now) c.args.object.now k in
    let size = c.len-place-end.ensures.len in
    sym (some_number test (length c.args.core.now.shape.points) c.places.place (omega (arith, size, c.places-test.true))
    (and_from (not (get_or c.args.mixed.now c.places.place false)) (in_slice (bare c.args.core.now) c.args.object.now c.places.place) (ap not c.if-not-mixed-place.true) (sym c.in_slice.ensures ∙ c.if-in_slice.true)))

pub returns : goal.returns
returns c =
    let test = λ (k : ℕ). not (get_or c.args.mixed.now k false) && in_slice (bare c.args.core.now) c.args.object.now k in
    let size = c.len-place-end.ensures.len in
    sym (none_of test 0 (length c.args.core.now.shape.points) (λ j l. c.places.invariant j (omega (arith, l, size, c.places-test.false))))

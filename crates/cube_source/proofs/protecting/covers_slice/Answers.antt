use Rattle.std.proofs.Common.{ℕ, ◌&&◌, length, sym, ◌∙◌, arith}
use Rattle.std.proofs.lemmas.Bool.{and_from}
use Rattle.cube_model.specs.Cubes.{covers}
use Rattle.cube_model.specs.Protection.{in_slice}
use Rattle.cube_source.specs.Blocks.{bare}
use Rattle.cube_source.proofs.Steps.{some_number, none_of}
use Rattle.cube_source.proofs.protecting.covers_slice.Goals as goal

pub returns-then-in_slice : goal.returns-then-in_slice
returns-then-in_slice c =
    let test = λ (k : ℕ). covers (bare c.args.core.now) c.args.cell.now k && in_slice (bare c.args.core.now) c.args.object.now k in
    let size = c.len-place-end.ensures.len in
    sym (some_number test (length c.args.core.now.shape.points) c.places.place (omega (arith, size, c.places-test.true))
    (and_from (covers (bare c.args.core.now) c.args.cell.now c.places.place) (in_slice (bare c.args.core.now) c.args.object.now c.places.place) (sym c.covers.ensures ∙ c.if-covers.true) (sym c.in_slice.ensures ∙ c.if-in_slice.true)))

pub returns : goal.returns
returns c =
    let test = λ (k : ℕ). covers (bare c.args.core.now) c.args.cell.now k && in_slice (bare c.args.core.now) c.args.object.now k in
    let size = c.len-place-end.ensures.len in
    sym (none_of test 0 (length c.args.core.now.shape.points) (λ j l. c.places.invariant j (omega (arith, l, size, c.places-test.false))))

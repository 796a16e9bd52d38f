use Rattle.std.proofs.Common.{ℕ, ◌&&◌, length, sym, ◌∙◌, arith}
use Rattle.std.proofs.lemmas.Bool.{and_from}
use Rattle.cube_model.specs.Cubes.{covers}
use Rattle.cube_model.specs.Protection.{is_guarded}
use Rattle.cube_source.specs.Blocks.{bare}
use Rattle.cube_source.specs.Objects.{of_measure}
use Rattle.cube_source.proofs.Steps.{some_number, none_of}
use Rattle.cube_source.proofs.protecting.covers_guarded.Goals as goal

pub returns-then-is_guarded : goal.returns-then-is_guarded
returns-then-is_guarded c =
    let test = λ (k : ℕ). covers (bare c.args.core.now) c.args.cell.now k && is_guarded (bare c.args.core.now) (of_measure c.args.measure c.args.objects.now) k in
    let size = c.len-place-end.ensures.len in
    sym (some_number test (length c.args.core.now.shape.points) c.places.place (omega (arith, size, c.places-test.true))
    (and_from (covers (bare c.args.core.now) c.args.cell.now c.places.place) (is_guarded (bare c.args.core.now) (of_measure c.args.measure c.args.objects.now) c.places.place) (sym c.covers.ensures ∙ c.if-covers.true) (sym c.is_guarded.ensures ∙ c.if-is_guarded.true)))

pub returns : goal.returns
returns c =
    let test = λ (k : ℕ). covers (bare c.args.core.now) c.args.cell.now k && is_guarded (bare c.args.core.now) (of_measure c.args.measure c.args.objects.now) k in
    let size = c.len-place-end.ensures.len in
    sym (none_of test 0 (length c.args.core.now.shape.points) (λ j l. c.places.invariant j (omega (arith, l, size, c.places-test.false))))

use Rattle.std.specs.List.{flat_map}
use Rattle.std.proofs.Common.{◌++◌, List, length, filter, take, sym, ap, ◌∙◌, arith}
use Rattle.std.proofs.lemmas.List.{take_all}
use Rattle.cube_model.specs.declared.cell.Cell.{Cell}
use Rattle.cube_model.specs.declared.policy.Object.{Object}
use Rattle.cube_model.specs.Protection.{under, each_once}
use Rattle.cube_source.specs.Blocks.{bare}
use Rattle.cube_source.specs.Fresh.{is_fresh}
use Rattle.cube_source.specs.Objects.{of_measure}
use Rattle.cube_source.proofs.Growing.{kept_twice, take_short, none_taken}
use Rattle.cube_source.proofs.Repeats.{object_more, object_other, placed_taken, placed_at}
use Rattle.cube_source.proofs.listing.lattice_cells.Goals as goal
use Rattle.cube_source.proofs.listing.lattice_cells.Goals.{then-object-measure+in_ok-add_under, else-object-measure}

pub add_under-requires-clause-earlier : goal.add_under-requires-clause-earlier
add_under-requires-clause-earlier c = placed_taken c.args.core.now.dims c.args.objects.now c.objects.number c.requires.objects

pub add_under-requires-clause-levels : goal.add_under-requires-clause-levels
add_under-requires-clause-levels c = (placed_at c.args.core.now.dims c.args.objects.now c.objects.number c.index-objects-number.result c.requires.objects c.objects-test.true c.index-objects-number.is).levels

pub add_under-requires-clause-slice : goal.add_under-requires-clause-slice
add_under-requires-clause-slice c = (placed_at c.args.core.now.dims c.args.objects.now c.objects.number c.index-objects-number.result c.requires.objects c.objects-test.true c.index-objects-number.is).slice

pub objects-init : goal.objects-init
objects-init c =
    let size = ap length c.new-cells.ensures in
    record { room = omega (arith, size); added = c.new-cells.ensures ∙ sym (none_taken {X = Cell} c.args.most) }

pub objects-preserved : goal.objects-preserved
objects-preserved c =
    let g = bare c.args.core.now in
    let done = each_once (flat_map (under g) (of_measure c.args.measure (take c.objects.number c.args.objects.now))) in
    let more = filter (is_fresh g (take c.objects.number c.args.objects.now) c.index-objects-number.result.measure) (under g c.index-objects-number.result) in
    elim c.if-object-measure.branch [
      | then-object-measure+in_ok-add_under w ↦ (
          let size = ap length (w.cells-is ∙ w.in_ok-add_under.ensures) in
          let short = take_short c.args.most (c.objects.cells ++ more) in
          record {
            room = omega (arith, size, short);
            added = w.cells-is ∙ w.in_ok-add_under.ensures
                ∙ ap (λ (ts : List Cell). take c.args.most (ts ++ more)) c.objects.invariant.added
                ∙ kept_twice c.args.most done more
                ∙ ap (take c.args.most) (sym (object_more g c.args.measure c.args.objects.now c.objects.number c.index-objects-number.result c.objects-test.true c.index-objects-number.is w.if-object-measure.true));
          })
      | else-object-measure w ↦ (
          let size = ap length w.cells-is in
          let room = c.objects.invariant.room in
          record {
            room = omega (arith, size, room);
            added = w.cells-is ∙ c.objects.invariant.added
                ∙ ap (take c.args.most) (sym (object_other g c.args.measure c.args.objects.now c.objects.number c.index-objects-number.result c.objects-test.true c.index-objects-number.is w.if-object-measure.false));
          })
    ]

pub returns : goal.returns
returns c =
    c.objects.invariant.added
    ∙ ap (λ (os : List Object). take c.args.most (each_once (flat_map (under (bare c.args.core.now)) (of_measure c.args.measure os)))) (take_all c.objects.number c.args.objects.now c.objects-test.false)

use Rattle.std.proofs.Common.{◌≡◌, ◌++◌, ◌∷◌, [], List, length, map, filter, sym, ap, ◌∙◌, arith}
use Rattle.std.proofs.lemmas.List.{length-append, map-append}
use Rattle.cube_model.specs.declared.cell.Cell.{Cell}
use Rattle.cube_model.specs.Cubes.{count_from}
use Rattle.cube_model.specs.Protection.{core_cell, is_guarded}
use Rattle.cube_source.specs.Blocks.{bare}
use Rattle.cube_source.specs.Objects.{of_measure}
use Rattle.cube_source.proofs.Growing.{number_passed, number_failed, numbers_full, numbers_all}
use Rattle.cube_source.proofs.listing.parity_cells.Goals as goal
use Rattle.cube_source.proofs.listing.parity_cells.Goals.{then-is_guarded+in_ok-finest_cell+in_ok-push, else-is_guarded}

pub places-preserved : goal.places-preserved
places-preserved c =
    let f = core_cell (bare c.args.core.now) in
    let test = is_guarded (bare c.args.core.now) (of_measure c.args.measure c.args.objects.now) in
    let k = c.places.place in
    let inv = c.places.invariant in
    elim c.if-is_guarded.branch [
      | then-is_guarded+in_ok-finest_cell+in_ok-push w ↦ (
          let new : c.if-is_guarded.cells ≡ c.places.cells ++ f c.places.place ∷ [] = w.cells-is ∙ w.in_ok-push.ensures.ok ∙ ap (λ (t : Cell). c.places.cells ++ t ∷ []) w.in_ok-finest_cell.ensures in
          let size = ap length new ∙ length-append c.places.cells (f c.places.place ∷ []) in
          let before = c.len.ensures in
          record {
            room = omega (arith, size, before, c.if-len-most.false);
            added = new ∙ ap (λ (ts : List Cell). ts ++ f c.places.place ∷ []) inv.added ∙ sym (map-append f (filter test (count_from 0 c.places.place)) (c.places.place ∷ []))
                ∙ ap (map f) (sym (number_passed test c.places.place (sym c.is_guarded.ensures ∙ w.if-is_guarded.true)));
          })
      | else-is_guarded w ↦ (
          let size = ap length w.cells-is in
          let room = inv.room in
          record {
            room = omega (arith, size, room);
            added = w.cells-is ∙ inv.added ∙ ap (map f) (sym (number_failed test c.places.place (sym c.is_guarded.ensures ∙ w.if-is_guarded.false)));
          })
    ]

pub returns-then-len-most : goal.returns-then-len-most
returns-then-len-most c =
    let size = c.len-place-end.ensures.len in
    let own = c.len.ensures in
    let room = c.places.invariant.room in
    numbers_full (core_cell (bare c.args.core.now)) (is_guarded (bare c.args.core.now) (of_measure c.args.measure c.args.objects.now)) (length c.args.core.now.shape.points) c.places.place c.args.most c.places.cells
    (omega (arith, size, c.places-test.true)) (omega (arith, own, room, c.if-len-most.true)) c.places.invariant.added

pub returns : goal.returns
returns c =
    let size = c.len-place-end.ensures.len in
    numbers_all (core_cell (bare c.args.core.now)) (is_guarded (bare c.args.core.now) (of_measure c.args.measure c.args.objects.now)) (length c.args.core.now.shape.points) c.places.place c.args.most c.places.cells
    (let end = c.places.auto.place-end in omega (arith, size, end)) (omega (arith, size, c.places-test.false)) c.places.invariant.room c.places.invariant.added

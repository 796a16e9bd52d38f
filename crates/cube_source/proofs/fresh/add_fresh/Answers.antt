use Rattle.std.proofs.Common.{◌≡◌, ◌++◌, ◌∷◌, [], List, length, map, filter, take, sym, ap, ◌∙◌, subst, arith}
use Rattle.std.proofs.lemmas.List.{append-nil, length-append}
use Rattle.cube_model.specs.declared.answer.Row.{Row}
use Rattle.cube_model.specs.declared.cell.Cell.{Cell}
use Rattle.cube_source.specs.Blocks.{bare, row_cell, AreBlocks}
use Rattle.cube_source.proofs.Growing.{grown_more, grown_same, grown_full, grown_all}
use Rattle.cube_source.proofs.Repeats.{is_new, fresh_cells}
use Rattle.cube_source.proofs.Rows.{block_at}
use Rattle.cube_source.proofs.fresh.add_fresh.Goals as goal
use Rattle.cube_source.proofs.fresh.add_fresh.Goals.{then-is_new+in_ok-make_cell+in_ok-push, else-is_new}

pub rows-init : goal.rows-init
rows-init c = record { room = c.requires.room; added = sym (append-nil c.args.cells.now) }

pub is_new-requires-clause-places : goal.is_new-requires-clause-places
is_new-requires-clause-places c =
    block_at (length c.args.core.now.shape.points) c.as_slice-row-items.result.now c.rows.row-index c.row-item.result
    (subst (AreBlocks (length c.args.core.now.shape.points)) (sym c.as_slice-row-items.ensures) c.in_ok-rows.ensures.places) c.rows-test.true c.row-item.is

pub rows-preserved : goal.rows-preserved
rows-preserved c =
    let f = row_cell c.args.levels.now in
    let test = is_new (bare c.args.core.now) c.args.earlier.now c.args.object.now c.args.levels.now in
    let own : test c.row-item.result ≡ c.is_new.result = sym c.is_new.ensures in
    let inv = c.rows.invariant in
    elim c.if-is_new.branch [
      | then-is_new+in_ok-make_cell+in_ok-push w ↦ (
          let new : c.if-is_new.cells ≡ c.rows.cells ++ f c.row-item.result ∷ [] = w.cells-is ∙ w.in_ok-push.ensures.ok ∙ ap (λ (t : Cell). c.rows.cells ++ t ∷ []) w.in_ok-make_cell.ensures in
          let size = ap length new ∙ length-append c.rows.cells (f c.row-item.result ∷ []) in
          let before = c.len-in-rows.ensures in
          record {
            room = omega (arith, size, before, c.if-len-most-2.false);
            added = new ∙ grown_more f test c.as_slice-row-items.result.now c.rows.row-index c.row-item.result c.args.cells.now c.rows.cells c.rows-test.true c.row-item.is (own ∙ w.if-is_new.true) inv.added;
          })
      | else-is_new w ↦ (
          let same = ap length w.cells-is in
          let room = inv.room in
          record {
            room = omega (arith, same, room);
            added = w.cells-is ∙ grown_same f test c.as_slice-row-items.result.now c.rows.row-index c.row-item.result c.args.cells.now c.rows.cells c.rows-test.true c.row-item.is (own ∙ w.if-is_new.false) inv.added;
          })
    ]

pub returns-then-len-most-2 : goal.returns-then-len-most-2
returns-then-len-most-2 c =
    let f = row_cell c.args.levels.now in
    let test = is_new (bare c.args.core.now) c.args.earlier.now c.args.object.now c.args.levels.now in
    let size = c.len-in-rows.ensures in
    let room = c.rows.invariant.room in
    grown_full f test c.as_slice-row-items.result.now c.rows.row-index c.args.most c.args.cells.now c.rows.cells (omega (arith, size, room, c.if-len-most-2.true)) c.rows.invariant.added
    ∙ ap (λ (ts : List Cell). take c.args.most (c.args.cells.now ++ ts)) (ap (λ (rs : List Row). map f (filter test rs)) (c.as_slice-row-items.ensures ∙ c.in_ok-rows.ensures.rows) ∙ fresh_cells (bare c.args.core.now) c.args.earlier.now c.args.object.now c.args.levels.now)

pub returns : goal.returns
returns c =
    let f = row_cell c.args.levels.now in
    let test = is_new (bare c.args.core.now) c.args.earlier.now c.args.object.now c.args.levels.now in
    grown_all f test c.as_slice-row-items.result.now c.rows.row-index c.args.most c.args.cells.now c.rows.cells c.rows-test.false c.rows.invariant.room c.rows.invariant.added
    ∙ ap (λ (ts : List Cell). take c.args.most (c.args.cells.now ++ ts)) (ap (λ (rs : List Row). map f (filter test rs)) (c.as_slice-row-items.ensures ∙ c.in_ok-rows.ensures.rows) ∙ fresh_cells (bare c.args.core.now) c.args.earlier.now c.args.object.now c.args.levels.now)

use Rattle.std.specs.List.{list_all}
use Rattle.std.specs.Prelude.{◌==◌}
use Rattle.std.proofs.Common.{◌≡◌, ◌∷◌, [], List, length, filter, take, get_or, sym, ap, ◌∙◌, arith}
use Rattle.std.proofs.lemmas.List.{take_all, length-append}
use Rattle.cube_model.specs.declared.answer.Row.{Row}
use Rattle.cube_source.proofs.Growing.{passed_more, failed_more}
use Rattle.cube_source.proofs.Rows.{block_places}
use Rattle.cube_advise.proofs.lone.count_single.Goals as goal
use Rattle.cube_advise.proofs.lone.count_single.Goals.{then-are_single, else-are_single}

pub are_single-requires : goal.are_single-requires
are_single-requires c = block_places (length c.args.facts.now) c.args.rows.now c.rows.row-index c.row-item.result c.as_slice.result.now c.requires.rows c.rows-test.true c.row-item.is c.as_slice.ensures

pub rows-preserved : goal.rows-preserved
rows-preserved c =
    let test = λ (row : Row). list_all (λ place. get_or c.args.facts.now place 0 == 1) row.places in
    let own : test c.row-item.result ≡ c.are_single.result = ap (list_all (λ place. get_or c.args.facts.now place 0 == 1)) (sym c.as_slice.ensures) ∙ sym c.are_single.ensures in
    let so_far = c.rows.invariant.counted in
    let bound = c.rows.invariant.small in
    elim c.if-are_single.branch [
      | then-are_single w ↦ (
          let next = ap length (passed_more test c.args.rows.now c.rows.row-index c.row-item.result c.rows-test.true c.row-item.is (own ∙ w.if-are_single.true)) ∙ length-append (filter test (take c.rows.row-index c.args.rows.now)) (c.row-item.result ∷ []) in
          let now = w.total-is in
          record { counted = omega (arith, next, so_far, now); small = omega (arith, bound, now) })
      | else-are_single w ↦ (
          let next = ap length (failed_more test c.args.rows.now c.rows.row-index c.row-item.result c.rows-test.true c.row-item.is (own ∙ w.if-are_single.false)) in
          let now = w.total-is in
          record { counted = omega (arith, next, so_far, now); small = omega (arith, bound, now) })
    ]

pub returns : goal.returns
returns c =
    let test = λ (row : Row). list_all (λ place. get_or c.args.facts.now place 0 == 1) row.places in
    record { count = c.rows.invariant.counted ∙ ap (λ (rs : List Row). length (filter test rs)) (take_all c.rows.row-index c.args.rows.now c.rows-test.false) }

use Rattle.std.proofs.Common.{◌≡◌, ◌≤◌, ◌+◌, ◌-◌, ◌∙◌, ℤ, ◌+ℤ◌, sym, ap, length, take, drop, w64, to_z, of_z, rules, arith}
use Rattle.std.proofs.lemmas.Int.{ints, to_z-of_z}
use Rattle.std.proofs.lemmas.List.{take_all, length-take-le, length-drop}
use Rattle.cube_facts.specs.Flat.{parts, sum_of}
use Rattle.cube_facts.specs.Table.{rows_in, kept_sum}
use Rattle.cube_facts.proofs.Block.{block_sum, front_of, length-rows_in}
use Rattle.cube_facts.proofs.flat.sum_rows.Goals as goal

pub blocks-2-preserved : goal.blocks-2-preserved
blocks-2-preserved c =
    let inv = c.blocks-2.invariant in
    let start = c.blocks-2.start in
    let n = c.min-count.result in
    let kept = c.mark_matching.new.kept in
    let values = c.args.values.now in
    let within : start + n ≤ length values = omega (arith, inv.within, c.min-count.ensures) in
    let block : n ≤ 4096 = omega (arith, c.min-count.ensures) in
    let old_long : length (take n c.blocks-2.kept) ≡ n = length-take-le n c.blocks-2.kept (omega (arith, block, c.min-count.array_long)) in
    let long : length kept ≡ n = c.mark_matching.auto.kept ∙ old_long in
    let front = front_of kept (drop n c.blocks-2.kept) n long in
    let many : start + n - start ≡ n = omega arith in
    let slice_long : length (take n (drop start values)) ≡ n = length-take-le n (drop start values) (omega (arith, within, length-drop start values)) in
    let sum : c.sum_kept-sum.result ≡ kept_sum kept (take n (drop start values)) = rw (front, many) at c.sum_kept-sum.ensures.sum in
    let bounded = rw (many, slice_long) at c.sum_kept-sum.ensures.bounded in
    let step = block_sum (parts c.args.line.now) c.args.width c.args.fields.now values start kept (omega (arith, within, long)) (λ k l. c.mark_matching.ensures k (omega (arith, l, long, old_long))) in
    let one : sum_of (parts c.args.line.now) (take (start + n) (rows_in c.args.width c.args.fields.now values)) ≡ sum_of (parts c.args.line.now) (take start (rows_in c.args.width c.args.fields.now values)) +ℤ c.sum_kept-sum.result =
    rw (long, sym sum) at step in
    let back : to_z w64 (of_z w64 c.sum_kept-sum.result) ≡ c.sum_kept-sum.result = to_z-of_z w64 c.sum_kept-sum.result (search rules) in
    let total : to_z w64 (of_z w64 (to_z w64 c.blocks-2.sum-bits +ℤ to_z w64 (of_z w64 c.sum_kept-sum.result))) ≡ to_z w64 c.blocks-2.sum-bits +ℤ c.sum_kept-sum.result =
    omega (arith, ints, back, inv.bounded.0, inv.bounded.1, bounded.0, bounded.1, within, c.requires.table.few) in
    record {
      within = within;
      sum = total ∙ ap (λ (z : ℤ). z +ℤ c.sum_kept-sum.result) inv.sum ∙ sym one;
      bounded = (omega (arith, ints, total, inv.bounded.0, bounded.0), omega (arith, ints, total, inv.bounded.1, bounded.1));
    }

pub returns : goal.returns
returns c =
    let inv = c.blocks-2.invariant in
    let rows = rows_in c.args.width c.args.fields.now c.args.values.now in
    let all = take_all c.blocks-2.start rows (omega (arith, c.blocks-2-test.false, length-rows_in c.args.width c.args.fields.now c.args.values.now)) in
    inv.sum ∙ ap (sum_of (parts c.args.line.now)) all

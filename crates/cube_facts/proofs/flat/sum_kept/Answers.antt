use Rattle.std.proofs.Common.{◌≡◌, ◌<◌, ◌∙◌, ap, get_or, false, w64, to_z, of_z, SFits, ℤ, pos, ◌+ℤ◌, rules, arith, length, add-one, if◌then◌else◌}
use Rattle.std.proofs.lemmas.Int.{ints, to_z-of_z}
use Rattle.cube_facts.proofs.Block.{kept_more}
use Rattle.cube_facts.proofs.flat.sum_kept.Goals as goal

pub loop-row-preserved : goal.loop-row-preserved
loop-row-preserved c =
    let inv = c.loop-row.invariant in
    let row = c.loop-row.row in
    let e = c.kept_value-more.ensures in
    let v = c.kept_value-more.result in
    let below : row < length c.args.values.now = c.loop-row-test.true in
    let back : to_z w64 (of_z w64 v) ≡ v = to_z-of_z w64 v (search rules) in
    let total : to_z w64 (of_z w64 (to_z w64 c.loop-row.sum-bits +ℤ to_z w64 (of_z w64 v))) ≡ to_z w64 c.loop-row.sum-bits +ℤ v = omega (arith, ints, back, inv.bounded.0, inv.bounded.1, e.bounded.0, e.bounded.1, c.requires.few, below) in
    let units = c.requires.bounded row (pos 0) below in
    let fits : SFits w64 (get_or c.args.values.now row (pos 0)) = search rules in
    let value : v ≡ (if get_or c.args.kept.now row false then get_or c.args.values.now row (pos 0) else pos 0) = e.value ∙ ap (λ (z : ℤ). if get_or c.args.kept.now row false then z else pos 0) (to_z-of_z w64 (get_or c.args.values.now row (pos 0)) fits) in
    let more = kept_more c.args.kept.now c.args.values.now row (omega (arith, below, c.requires.same)) below in
    record {
      sum = rw (total, add-one, more) (ap (λ (z : ℤ). to_z w64 c.loop-row.sum-bits +ℤ z) value ∙ ap (λ (z : ℤ). z +ℤ (if get_or c.args.kept.now row false then get_or c.args.values.now row (pos 0) else pos 0)) inv.sum);
      bounded = (omega (arith, ints, total, inv.bounded.0, e.bounded.0), omega (arith, ints, total, inv.bounded.1, e.bounded.1));
    }

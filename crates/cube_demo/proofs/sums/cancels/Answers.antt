use Rattle.std.proofs.Common.{length, ap, arith}
use Rattle.cube_demo.proofs.Totals.{places_few}
use Rattle.cube_demo.proofs.sums.cancels.Goals as goal

pub sum_at-requires-clause-few : goal.sum_at-requires-clause-few
sum_at-requires-clause-few c =
    let few = places_few (length c.args.signs.now) c.args.row.now.places c.requires.places in
    let same = ap length c.as_slice.ensures in
    omega (arith, few, same, c.requires.few)

use Rattle.std.proofs.Common.{arith}
use Rattle.cube_lattice.proofs.Steps.{one_more, digits_end}
use Rattle.cube_lattice.proofs.number.read_digits.Goals as goal

pub bounds-levels-place : goal.bounds-levels-place
bounds-levels-place c =
    (one_more c.args.dimensions.now c.args.levels.now c.digits.place c.digits.number c.index-dimensions-place.result c.requires.levels c.digits-test.true c.index-dimensions-place.is c.digits.invariant.split c.digits.invariant.levels).there

pub with_digit-number-requires : goal.with_digit-number-requires
with_digit-number-requires c =
    let more = one_more c.args.dimensions.now c.args.levels.now c.digits.place c.digits.number c.index-dimensions-place.result c.requires.levels c.digits-test.true c.index-dimensions-place.is c.digits.invariant.split c.digits.invariant.levels in
    omega (arith, more.small, c.requires.few)

pub digits-preserved : goal.digits-preserved
digits-preserved c =
    let more = one_more c.args.dimensions.now c.args.levels.now c.digits.place c.digits.number c.index-dimensions-place.result c.requires.levels c.digits-test.true c.index-dimensions-place.is c.digits.invariant.split c.digits.invariant.levels in
    rw c.with_digit-number.ensures (record { split = more.split; levels = more.levels })

pub returns : goal.returns
returns c = digits_end c.args.dimensions.now c.args.levels.now c.digits.place c.digits.number c.digits-test.false c.digits.invariant.split

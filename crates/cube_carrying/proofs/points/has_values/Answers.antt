use Rattle.std.proofs.Common.{◌<◌, length, ap, sym, ◌∙◌, arith}
use Rattle.cube_model.specs.Dims.{Dims}
use Rattle.cube_carrying.specs.Points.{has_value}
use Rattle.cube_carrying.proofs.Keeping.{measure_read, measures_long, all_pass, one_fails}
use Rattle.cube_carrying.proofs.points.has_values.Goals as goal

pub bounds-numbers-measure : goal.bounds-numbers-measure
bounds-numbers-measure g c =
    let dims = ap (λ (s : Dims). length s.measures) c.dims.ensures.dims in
    let size = ap length c.measures-2.ensures.measures in
    let long = measures_long c.args.old.now.dims c.args.new.now.dims c.args.numbers.now c.requires.numbers in
    omega (arith, dims, size, long, c.measures-test.true)

pub has_value-requires-clause-number : goal.has_value-requires-clause-number
has_value-requires-clause-number g c =
    let dims = ap (λ (s : Dims). length s.measures) c.dims.ensures.dims in
    let size = ap length c.measures-2.ensures.measures in
    measure_read c.args.old.now.dims c.args.new.now.dims c.args.numbers.now c.measures.measure c.requires.numbers (omega (arith, dims, size, c.measures-test.true))

pub has_value-requires-clause-within : goal.has_value-requires-clause-within
has_value-requires-clause-within g c =
    let dims = ap (λ (s : Dims). length s.measures) c.dims.ensures.dims in
    let size = ap length c.measures-2.ensures.measures in
    let below : c.measures.measure < length c.args.old.now.dims.measures = omega (arith, dims, size, c.measures-test.true) in
    let is = measure_read c.args.old.now.dims c.args.new.now.dims c.args.numbers.now c.measures.measure c.requires.numbers below in
    let there = c.requires.measures c.measures.measure below in
    omega (arith, is, there)

pub returns-then-not-has_value : goal.returns-then-not-has_value
returns-then-not-has_value g c =
    let dims = ap (λ (s : Dims). length s.measures) c.dims.ensures.dims in
    let size = ap length c.measures-2.ensures.measures in
    sym (one_fails (has_value c.args.old.now c.args.new.now c.args.place c.args.there) (length c.args.old.now.dims.measures) c.measures.measure (omega (arith, dims, size, c.measures-test.true)) (sym c.has_value.ensures ∙ c.if-not-has_value.true))

pub returns : goal.returns
returns g c =
    let dims = ap (λ (s : Dims). length s.measures) c.dims.ensures.dims in
    let size = ap length c.measures-2.ensures.measures in
    sym (all_pass (has_value c.args.old.now c.args.new.now c.args.place c.args.there) (length c.args.old.now.dims.measures) (λ k l. c.measures.invariant k (omega (arith, l, dims, size, c.measures-test.false))))

use Rattle.std.proofs.Common.{◌<◌, true, not, length, ap, sym, ◌∙◌, arith}
use Rattle.cube_carry.specs.Continues.{has_measure}
use Rattle.cube_carry.specs.Names.{named}
use Rattle.cube_source.proofs.Steps.{first_number, no_number}
use Rattle.cube_carrying.proofs.Firsts.{up_to}
use Rattle.cube_carrying.proofs.measures.missing_measure.Goals as goal

pub returns-then-not-has_measure : goal.returns-then-not-has_measure
returns-then-not-has_measure c =
    let a = named c.args.old.now c.args.old_policy.now in
    let b = named c.args.new.now c.args.new_policy.now in
    let dims = ap (λ s. length s.measures) c.dims.ensures.dims in
    let size = ap length c.measures.ensures.measures in
    let below : c.each.measure < length c.args.old.now.dims.measures = omega (arith, dims, size, c.each-test.true) in
    sym (first_number (λ k. not (has_measure a b k)) 0 (length c.args.old.now.dims.measures) c.each.measure (omega arith) (omega (arith, below)) (λ j l. ap not (c.each.invariant j l)) (ap not (sym c.has_measure.ensures ∙ c.if-not-has_measure.true)))

pub returns : goal.returns
returns c =
    let a = named c.args.old.now c.args.old_policy.now in
    let b = named c.args.new.now c.args.new_policy.now in
    let dims = ap (λ s. length s.measures) c.dims.ensures.dims in
    let size = ap length c.measures.ensures.measures in
    sym (no_number (λ k. not (has_measure a b k)) 0 (length c.args.old.now.dims.measures) (λ j l. ap not (c.each.invariant j (omega (arith, l, dims, size, c.each-test.false)))))

pub each-preserved : goal.each-preserved
each-preserved c = up_to (has_measure (named c.args.old.now c.args.old_policy.now) (named c.args.new.now c.args.new_policy.now)) true c.each.measure c.each.invariant (sym c.has_measure.ensures ∙ c.if-not-has_measure.false)

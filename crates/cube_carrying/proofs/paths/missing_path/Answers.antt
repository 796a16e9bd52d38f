use Rattle.std.proofs.Common.{◌<◌, length, ap, sym, arith}
use Rattle.cube_model.specs.Dims.{dimension_at}
use Rattle.cube_carry.specs.Continues.{has_path}
use Rattle.cube_carrying.specs.Firsts.{first_failing}
use Rattle.cube_carrying.proofs.Firsts.{with_at, with_none}
use Rattle.cube_carrying.proofs.paths.missing_path.Goals as goal

pub returns-in-Some : goal.returns-in-Some
returns-in-Some c =
    let s = c.args.dims.now in
    let size = ap length c.dimensions.ensures.dimensions in
    let below : c.each.number < length s.dimensions = omega (arith, size, c.each-test.true) in
    sym (with_at (λ d. first_failing (has_path c.args.other.now (dimension_at s d)) (dimension_at s d).paths) 0 (length s.dimensions) c.each.number c.in-Some.path (omega arith) (omega (arith, below)) c.each.invariant (sym c.in-Some.ensures))

pub returns : goal.returns
returns c =
    let s = c.args.dims.now in
    let size = ap length c.dimensions.ensures.dimensions in
    sym (with_none (λ d. first_failing (has_path c.args.other.now (dimension_at s d)) (dimension_at s d).paths) 0 (length s.dimensions) (λ j l. c.each.invariant j (omega (arith, l, size, c.each-test.false))))

use Rattle.std.proofs.Common.{◌≤◌, arith}
use Rattle.std.proofs.Math.Nat.{mul-le-mul}
use Rattle.cube_text.proofs.Digits.{powers}
use Rattle.cube_facts.proofs.plain.scaled.Goals as goal

pub overflow_mul-result : goal.overflow_mul-result
overflow_mul-result c =
    let p = powers c.args.places c.requires.few in
    let v : c.args.value ≤ 1000000000000 = omega (arith, c.requires.small) in
    let q : c.power_of_ten.result ≤ 1000000 = omega (arith, p.1, c.power_of_ten.ensures) in
    let e = mul-le-mul v q in omega (arith, e)

pub returns-clause-bounded : goal.returns-clause-bounded
returns-clause-bounded c =
    let p = powers c.args.places c.requires.few in
    let v : c.args.value ≤ 1000000000000 = omega (arith, c.requires.small) in
    let q : c.power_of_ten.result ≤ 1000000 = omega (arith, p.1, c.power_of_ten.ensures) in
    let e = mul-le-mul v q in omega (arith, e)

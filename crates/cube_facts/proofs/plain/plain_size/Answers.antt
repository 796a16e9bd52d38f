use Rattle.std.proofs.Common.{◌<◌, ◌*◌, ◌^◌, ap, ◌∙◌, arith, ℕ}
use Rattle.cube_facts.proofs.Numbers.{plain_whole, plain_behind}
use Rattle.cube_facts.proofs.plain.plain_size.Goals as goal

pub returns-then-many-body : goal.returns-then-many-body
returns-then-many-body c =
    let d = c.args.decimals in
    let many = c.front_digits-many.result.0 in
    let some : 0 < many = omega (arith, c.if-many-eq0.false) in
    plain_whole d c.args.body.now many c.scaled-size.result c.no_more.result c.if-many-body.true some c.front_digits-many.ensures.digits
    (c.scaled-size.ensures.is ∙ ap (λ (v : ℕ). v * 10 ^ d) c.front_digits-many.ensures.value) c.no_more.ensures

pub returns : goal.returns
returns c =
    let d = c.args.decimals in
    let many = c.front_digits-many.result.0 in
    let some : 0 < many = omega (arith, c.if-many-eq0.false) in
    plain_behind d c.args.body.now many c.scaled-size.result c.in_ok-size_behind.field-0 c.no_more-2.result c.front_digits-many.ensures.many some c.front_digits-many.ensures.digits
    (c.scaled-size.ensures.is ∙ ap (λ (v : ℕ). v * 10 ^ d) c.front_digits-many.ensures.value) c.in_ok-size_behind.ensures.is c.no_more-2.ensures

use Rattle.std.proofs.Common.{◌≤◌, ◌-◌, length, arith}
use Rattle.cube_facts.proofs.Tagged.{behind_fits}
use Rattle.cube_facts.proofs.tags.tag_of.Goals as goal

pub overflow_mul-tag : goal.overflow_mul-tag
overflow_mul-tag c =
    let few : length c.args.name.now ≤ 7 = omega (arith, c.if-name-gt-MAX_SHORT.false) in
    let fits = behind_fits c.args.name.now c.loop-behind.behind (λ i. omega (arith, c.type_inv.name i)) c.loop-behind-test.true few in
    omega (arith, fits, c.loop-behind.invariant)

pub overflow_add-tag : goal.overflow_add-tag
overflow_add-tag c =
    let few : length c.args.name.now ≤ 7 = omega (arith, c.if-name-gt-MAX_SHORT.false) in
    let fits = behind_fits c.args.name.now c.loop-behind.behind (λ i. omega (arith, c.type_inv.name i)) c.loop-behind-test.true few in
    let byte = c.type_inv.name (length c.args.name.now - 1 - c.loop-behind.behind) in
    omega (arith, fits, byte, c.loop-behind.invariant, c.from.ensures)

pub overflow_add-tag-in-loop-behind : goal.overflow_add-tag-in-loop-behind
overflow_add-tag-in-loop-behind c =
    let few : length c.args.name.now ≤ 7 = omega (arith, c.if-name-gt-MAX_SHORT.false) in
    let fits = behind_fits c.args.name.now c.loop-behind.behind (λ i. omega (arith, c.type_inv.name i)) c.loop-behind-test.true few in
    let byte = c.type_inv.name (length c.args.name.now - 1 - c.loop-behind.behind) in
    omega (arith, fits, byte, c.loop-behind.invariant, c.from.ensures)

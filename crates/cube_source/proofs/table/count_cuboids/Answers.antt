use Rattle.std.proofs.Common.{arith}
use Rattle.cube_source.proofs.Tables.{count_is}
use Rattle.cube_source.proofs.table.count_cuboids.Goals as goal

pub overflow_cast-result : goal.overflow_cast-result
overflow_cast-result c =
    let e = count_is c.args.dims.now c.len-2.result c.in_ok-cuboids.field-0 c.len-2.ensures c.in_ok-cuboids.ensures in
    let few = c.dimensions-rules.ensures.rules.few_cuboids in
    omega (arith, e, few)

pub returns-clause-count : goal.returns-clause-count
returns-clause-count c = count_is c.args.dims.now c.len-2.result c.in_ok-cuboids.field-0 c.len-2.ensures c.in_ok-cuboids.ensures

pub returns-clause-few : goal.returns-clause-few
returns-clause-few c =
    let e = count_is c.args.dims.now c.len-2.result c.in_ok-cuboids.field-0 c.len-2.ensures c.in_ok-cuboids.ensures in
    let few = c.dimensions-rules.ensures.rules.few_cuboids in
    omega (arith, e, few)

use Rattle.std.proofs.Common.{arith}
use Rattle.cube_carrying.proofs.Blanks.{few_members}
use Rattle.cube_carrying.proofs.carried_cells.carried_member.Goals as goal

pub overflow_cast-result : goal.overflow_cast-result
overflow_cast-result c =
    let few = few_members c.args.other.now c.args.level c.member_named.result c.member_name.result.now c.paths-rules.ensures.rules c.member_named.ensures in
    omega (arith, few)

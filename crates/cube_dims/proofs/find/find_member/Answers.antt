use Rattle.std.proofs.Common.{[], sym, ap, length, arith}
use Rattle.std.specs.Str.{bytes_eq}
use Rattle.cube_model.specs.Cubes.{distinct}
use Rattle.std.proofs.lemmas.List.Quantifiers.{position-Some}
use Rattle.cube_model.proofs.DimsFacts.{length-distinct, length-names_at}
use Rattle.cube_dims.proofs.find.find_member.Goals as goal

pub overflow_cast-result : goal.overflow_cast-result
overflow_cast-result c =
    let names = c.members.result.now in
    let below = (position-Some (bytes_eq c.args.name.now) (distinct names) c.in-Some.number [] (sym c.in-Some.ensures)).0 in
    let few = length-distinct names in
    let all = ap length c.members.ensures.members in
    let leaves = length-names_at c.dimension.result.now c.args.l in
    omega (arith, below, few, all, leaves, c.members.ensures.rules.few_leaves)

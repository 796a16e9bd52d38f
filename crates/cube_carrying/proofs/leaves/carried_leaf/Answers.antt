use Rattle.std.proofs.Common.{List, ℕ, [], length, get_or, ap, ap₂, ◌∙◌, arith}
use Rattle.cube_model.specs.Cubes.{distinct, place_of}
use Rattle.cube_model.proofs.DimsFacts.{length-distinct, length-names_at}
use Rattle.cube_carrying.proofs.Found.{place_within}
use Rattle.cube_carrying.proofs.leaves.carried_leaf.Goals as goal

pub name-leaf_name-requires : goal.name-leaf_name-requires
name-leaf_name-requires c =
    let own = ap (λ (xs : List (List ℕ)). length (distinct xs)) c.members-own.ensures.members in
    let once = ap length c.members-own.ensures.rules.distinct_leaves in
    let leaves = length-names_at c.args.dimension.now 0 in
    omega (arith, own, once, leaves, c.requires)

pub overflow_cast-result : goal.overflow_cast-result
overflow_cast-result c =
    let at = c.number_of.ensures in
    let within = place_within c.name-leaf_name.result.now (distinct c.members-names.result.now) in
    let few = length-distinct c.members-names.result.now in
    let all = ap length c.members-names.ensures.members in
    let leaves = length-names_at c.args.other.now 0 in
    omega (arith, at, within, few, all, leaves, c.members-names.ensures.rules.few_leaves)

pub returns : goal.returns
returns c =
    c.number_of.ensures
    ∙ ap₂ (λ (x : List ℕ) (xs : List (List ℕ)). place_of x (distinct xs))
    (c.name-leaf_name.ensures ∙ ap (λ (xs : List (List ℕ)). get_or (distinct xs) c.args.leaf []) c.members-own.ensures.members)
    c.members-names.ensures.members

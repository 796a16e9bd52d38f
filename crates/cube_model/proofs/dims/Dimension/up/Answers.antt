use Rattle.std.proofs.Common.{◌<◌, ◌≤◌, ℕ, List, ◌∙◌, ap, sym, subst, get_or, length, [], arith}
use Rattle.cube_model.specs.Cubes.{place_of, distinct}
use Rattle.cube_model.specs.Dims.{NamedDimension}
use Rattle.cube_model.proofs.DimsFacts.{up-named, up-all, length-names_at}
use Rattle.cube_model.proofs.dims.Dimension.up.Goals as goal

pub number-requires : goal.number-requires
number-requires c =
    let a = ap length c.members.ensures.members in
    let b = length-names_at c.args.self.now c.args.level in
    omega (arith, a, b, c.requires.leaf)

pub returns-then-level-len : goal.returns-then-level-len
returns-then-level-len c =
    let below : c.args.level < length c.args.self.now.levels = subst (λ (d : NamedDimension). c.args.level < length d.levels) c.self.view_is (omega arith) in
    c.number.ensures
    ∙ ap (λ (names : List (List ℕ)). place_of (get_or names c.args.leaf []) (distinct names)) c.members.ensures.members
    ∙ sym (up-named c.args.self.now c.args.level c.args.leaf c.members.ensures.rules.distinct_leaves below c.requires.leaf)

pub returns-else-level-len : goal.returns-else-level-len
returns-else-level-len c =
    let above : length c.args.self.now.levels ≤ c.args.level = subst (λ (d : NamedDimension). length d.levels ≤ c.args.level) c.self.view_is (omega arith) in
    sym (up-all c.args.self.now c.args.level c.args.leaf above)

use Rattle.std.proofs.Common.{◌≡◌, ℕ, List, [], ◌∷◌, ◌++◌, length, map, ap, sym, ◌∙◌, arith}
use Rattle.cube_model.specs.Cubes.{count_from}
use Rattle.cube_carry.specs.Names.{carried_member}
use Rattle.cube_carrying.proofs.Tables.{numbers_more}
use Rattle.cube_carrying.proofs.leaves.leaves_of.Goals as goal

pub leaves-preserved : goal.leaves-preserved
leaves-preserved c =
    let f = carried_member c.args.dimension.now c.args.other.now 0 in
    c.in_ok-push.ensures.ok ∙ ap (λ (n : ℕ). c.leaves.numbers ++ n ∷ []) c.carried_leaf.ensures ∙ ap (λ (ns : List ℕ). ns ++ f c.leaves.leaf ∷ []) c.leaves.invariant ∙ sym (numbers_more f c.leaves.leaf)

pub returns : goal.returns
returns c =
    let size = ap length c.paths-paths.ensures.paths in
    let end = c.leaves.auto.leaf-end in
    let all : c.leaves.leaf ≡ length c.args.dimension.now.paths = omega (arith, size, end, c.leaves-test.false) in
    c.leaves.invariant ∙ ap (λ (n : ℕ). map (carried_member c.args.dimension.now c.args.other.now 0) (count_from 0 n)) all

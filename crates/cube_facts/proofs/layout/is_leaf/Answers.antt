use Rattle.std.proofs.Common.{◌≡◌, ℕ, List, [], length, get_or, sym, ap, ◌∙◌, arith}
use Rattle.std.proofs.lemmas.Slice.Eq.{bytes_eq-Decides}
use Rattle.cube_model.specs.Cubes.{distinct, names_at}
use Rattle.cube_model.specs.Dims.{plain}
use Rattle.cube_facts.proofs.Recent.{found_there}
use Rattle.cube_facts.proofs.layout.is_leaf.Goals as goal

pub returns-then-leaf-count : goal.returns-then-leaf-count
returns-then-leaf-count c = λ equal. (
    let names = c.members-names.ensures.members in
    let same : c.name.result.now ≡ c.args.name.now = (bytes_eq-Decides c.name.result.now c.args.name.now).0 (sym c.eq.ensures ∙ equal) in
    let at : get_or (distinct (names_at (plain c.args.dimension.now) 0)) c.args.leaf [] ≡ c.args.name.now = ap (λ (ns : List (List ℕ)). get_or (distinct ns) c.args.leaf []) (sym names) ∙ sym c.name.ensures ∙ same in
    let long = ap (λ (ns : List (List ℕ)). length (distinct ns)) names in
    let below = c.if-leaf-count.true in
    let count = c.count.ensures in
    found_there c.args.dimension.now c.args.leaf c.args.name.now c.levels-levels.ensures.rules (omega (arith, below, count, long)) at)

use Rattle.std.proofs.Common.{◌≡◌, ◌∙◌, ℕ, ◌+◌, ◌<◌, List, [], ◌∷◌, length, length-append, get_or, Some, sym, ap, subst, arith}
use Rattle.cube_model.specs.Cubes.{distinct, names_at}
use Rattle.cube_model.specs.Dims.{plain}
use Rattle.cube_facts.specs.FactFile.{leaf_of}
use Rattle.cube_facts.specs.Tags.{HasTags}
use Rattle.cube_facts.proofs.Tagged.{tags_more, tag_tells}
use Rattle.cube_facts.proofs.tags.leaf_tags.Goals as goal

pub loop-leaf-preserved : goal.loop-leaf-preserved
loop-leaf-preserved c =
    let d = c.args.dimension.now in
    let k = c.loop-leaf.leaf in
    let names = c.members-names.ensures.members in
    let at : get_or (distinct (names_at (plain d) 0)) k [] ≡ c.name.result.now = ap (λ (ns : List (List ℕ)). get_or (distinct ns) k []) (sym names) ∙ sym c.name.ensures in
    let many = ap (λ (ns : List (List ℕ)). length (distinct ns)) names in
    let below : k < length (distinct (names_at (plain d) 0)) = omega (arith, c.loop-leaf-test.true, c.count-leaf-end.ensures, many) in
    let put = c.in_ok-push.ensures.ok in
    let tells = tag_tells d k c.name.result.now c.levels-levels.ensures.rules c.tag_of.ensures.bytes below at in
    record {
      long = ap length put ∙ length-append c.loop-leaf.tags (c.tag_of.result ∷ []) ∙ ap (λ (n : ℕ). n + 1) c.loop-leaf.invariant.long;
      has = subst (HasTags d) (sym put) (tags_more d c.loop-leaf.tags c.tag_of.result c.loop-leaf.invariant.has
          (λ name bytes some e. subst (λ (n : ℕ). leaf_of d name ≡ Some n) (sym c.loop-leaf.invariant.long) (tells name bytes some (sym c.tag_of.ensures.is ∙ e))));
    }

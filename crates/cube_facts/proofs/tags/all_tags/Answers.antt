use Rattle.std.proofs.Common.{◌≡◌, ◌<◌, ◌+◌, ◌∙◌, ◌∷◌, [], ℕ, List, length, length-append, get_or, sym, ap, subst, arith}
use Rattle.cube_model.specs.Dims.{NamedDimension}
use Rattle.cube_facts.specs.Tags.{HasTags}
use Rattle.cube_facts.proofs.Tagged.{dimension_more}
use Rattle.cube_facts.proofs.tags.all_tags.Goals as goal

pub loop-dimension-preserved : goal.loop-dimension-preserved
loop-dimension-preserved c =
    let ds = c.args.dims.now.dimensions in
    let tags = c.loop-dimension.tags in
    let t = c.in_ok-leaf_tags.field-0 in
    let d = c.dimension-item.result in
    let items = c.dimensions-dimension-items.ensures.dimensions in
    let inv = c.loop-dimension.invariant in
    let put = c.in_ok-push.ensures.ok in
    let below : length tags < length ds = omega (arith, ap length items, c.loop-dimension-test.true, inv.long) in
    let at : d ≡ get_or ds (length tags) d = c.dimension-item.is ∙ ap (λ xs. get_or xs c.loop-dimension.dimension-index d) items ∙ ap (λ (j : ℕ). get_or ds j d) (sym inv.long) in
    record {
      long = ap length put ∙ length-append tags (t ∷ []) ∙ ap (λ (n : ℕ). n + 1) inv.long;
      each = subst (λ (ts : List (List ℕ)). (i : ℕ) (e : NamedDimension) → i < length ts → HasTags (get_or ds i e) (get_or ts i [])) (sym put) (dimension_more ds tags d t below at c.in_ok-leaf_tags.ensures inv.each);
    }

pub returns : goal.returns
returns c =
    let long : length c.loop-dimension.tags ≡ length c.args.dims.now.dimensions = omega (arith, ap length c.dimensions-dimension-items.ensures.dimensions, c.loop-dimension.invariant.long, c.loop-dimension-test.false, c.loop-dimension.auto.dimension-index-end) in
    record {
      long = long;
      each = λ i d l. c.loop-dimension.invariant.each i d (omega (arith, l, long));
    }

use Rattle.std.proofs.Common.{◌<◌, ◌≤◌, ℕ, List, [], ◌∷◌, ◌++◌, length, map, ap, ap₂, sym, ◌∙◌, arith}
use Rattle.std.proofs.lemmas.List.{map_more, take_all}
use Rattle.cube_model.specs.Dims.{NamedDimension, dimension_at, no_dimension}
use Rattle.cube_model.proofs.Parities.{all_at}
use Rattle.cube_carry.specs.Continues.{has_dimension}
use Rattle.cube_carry.specs.Names.{same_dimension}
use Rattle.cube_carry.proofs.Dimensions.{in_at}
use Rattle.cube_carrying.specs.Leaves.{leaves_in}
use Rattle.cube_carrying.proofs.leaves.carried_leaves.Goals as goal

pub same_dimension-requires : goal.same_dimension-requires
same_dimension-requires c =
    let size = ap length c.dimensions-all.ensures.dimensions in
    let below : c.each.number < length c.args.new.now.dimensions = omega (arith, size, c.each-test.true) in
    ap (has_dimension c.args.old.now) c.dimension-dimension.ensures.dimension
    ∙ all_at (has_dimension c.args.old.now) (dimension_at c.args.new.now c.each.number) c.args.new.now.dimensions c.requires (in_at no_dimension c.args.new.now.dimensions c.each.number below)

pub each-preserved : goal.each-preserved
each-preserved c =
    let size = ap length c.dimensions-all.ensures.dimensions in
    let below : c.each.number < length c.args.new.now.dimensions = omega (arith, size, c.each-test.true) in
    let own = c.dimension-dimension.ensures.dimension in
    let g = λ (e : NamedDimension). leaves_in (same_dimension c.args.old.now e) e in
    c.in_ok-push.ensures.ok
    ∙ ap (λ (ls : List ℕ). c.each.table ++ ls ∷ []) (c.in_ok-leaves_of.ensures ∙ ap₂ leaves_in (c.same_dimension.ensures ∙ ap (same_dimension c.args.old.now) own) own)
    ∙ ap (λ (t : List (List ℕ)). t ++ g (dimension_at c.args.new.now c.each.number) ∷ []) c.each.invariant
    ∙ sym (map_more g c.args.new.now.dimensions c.each.number no_dimension below)

pub returns : goal.returns
returns c =
    let size = ap length c.dimensions-all.ensures.dimensions in
    let past : length c.args.new.now.dimensions ≤ c.each.number = omega (arith, size, c.each-test.false) in
    c.each.invariant ∙ ap (map (λ (e : NamedDimension). leaves_in (same_dimension c.args.old.now e) e)) (take_all c.each.number c.args.new.now.dimensions past)

use Rattle.std.proofs.Common.{◌&&◌, ◌+◌, false, cond, ℕ, List, length, take, get_or, sym, ap, ◌∙◌, subst, arith, eqb}
use Rattle.std.proofs.lemmas.List.{with_items_is}
use Rattle.cube_model.specs.Cubes.{is_finer}
use Rattle.cube_source.specs.Blocks.{bare}
use Rattle.cube_source.specs.Bounds.{limit, raised, bound_over, AreBounds}
use Rattle.cube_source.proofs.Counted.{slice_here, slice_long, bounds_more}
use Rattle.cube_source.proofs.slices.bounds_over.Goals as goal

pub add_slice-requires : goal.add_slice-requires
add_slice-requires c =
    let own = c.as_slice-slice.ensures ∙ slice_here (bare c.args.core.now) c.args.objects.now c.args.slices.now c.objects.number c.index-objects-number.result c.index-slices-number.result c.requires.slices c.objects-test.true c.index-objects-number.is c.index-slices-number.is in
    let size = ap length own ∙ slice_long (bare c.args.core.now) c.index-objects-number.result in
    let bounds = ap length c.as_mut_slice.ensures.value in
    let long = c.objects.invariant.long in
    omega (arith, size, bounds, long)

pub objects-preserved : goal.objects-preserved
objects-preserved c =
    let own = c.as_slice-slice.ensures ∙ slice_here (bare c.args.core.now) c.args.objects.now c.args.slices.now c.objects.number c.index-objects-number.result c.index-slices-number.result c.requires.slices c.objects-test.true c.index-objects-number.is c.index-slices-number.is in
    let old = c.as_mut_slice.ensures.value in
    let size = c.add_slice.ensures.long ∙ ap length old in
    let items = with_items_is c.objects.bounds c.add_slice.new.bounds (c.add_slice.ensures.long ∙ c.as_mut_slice.ensures.len) in
    subst (λ (bs : List ℕ). AreBounds (length c.args.core.now.shape.points) (bound_over (bare c.args.core.now) (take (c.objects.number + 1) c.args.objects.now) c.args.measure c.args.levels.now) bs) (sym items)
    (bounds_more (bare c.args.core.now) c.args.measure c.args.levels.now c.args.objects.now c.objects.number c.index-objects-number.result c.as_slice-slice.result.now c.objects.bounds.items c.add_slice.new.bounds c.objects-test.true c.index-objects-number.is own size
    (λ k l. (let here = ap length old in c.add_slice.ensures.added k (omega (arith, l, here)) ∙ ap (λ (bs : List ℕ). raised (get_or bs k 0) (cond ((eqb c.index-objects-number.result.measure c.args.measure && is_finer c.args.levels.now c.index-objects-number.result.levels) && get_or c.as_slice-slice.result.now k false) (limit c.index-objects-number.result.fewer) 0)) old)) c.objects.invariant)

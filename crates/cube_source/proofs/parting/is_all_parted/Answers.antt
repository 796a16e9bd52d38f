use Rattle.std.specs.List.{list_any}
use Rattle.std.proofs.Common.{List, Bool, false, not, ◌&&◌, length, get_or, sym, ◌∙◌, subst}
use Rattle.std.proofs.lemmas.Bool.{and_parts, not-true}
use Rattle.cube_model.specs.Cubes.{is_finer, places}
use Rattle.cube_model.specs.Protection.{in_slice}
use Rattle.cube_model.proofs.Finer.{is_finer_refl}
use Rattle.cube_source.specs.Blocks.{bare, is_mixed, AreFlags}
use Rattle.cube_source.proofs.Whole.{none_whole}
use Rattle.cube_source.proofs.parting.is_all_parted.Goals as goal

pub returns-then-is_mixed_above : goal.returns-then-is_mixed_above
returns-then-is_mixed_above c = λ _.
    let flags = c.args.mixed.now.flags.items in
    let any = list_any (λ i. not (get_or flags i false) && in_slice (bare c.args.core.now) c.args.object.now i) (places (bare c.args.core.now)) in
    let p = and_parts (is_finer c.args.object.now.levels c.args.mixed.now.levels) (not any) (sym c.is_mixed_above.ensures ∙ c.if-is_mixed_above.true) in
    none_whole c.args.core.now c.args.object.now c.args.mixed.now.levels c.args.blocks.now flags c.dims-rules.ensures.rules c.requires.blocks p.0 c.requires.mixed (not-true any p.1)

pub returns : goal.returns
returns c = λ e.
    let flags = subst (λ (fs : List Bool). AreFlags (length c.args.core.now.shape.points) (is_mixed (bare c.args.core.now) c.args.object.now.levels c.args.blocks.now) fs) (sym c.as_slice.ensures.value) c.in_ok-own.ensures in
    none_whole c.args.core.now c.args.object.now c.args.object.now.levels c.args.blocks.now c.as_slice.result.now c.dims-rules.ensures.rules c.requires.blocks (is_finer_refl c.args.object.now.levels) flags (sym c.any_unmixed.ensures ∙ not-true c.any_unmixed.result e)

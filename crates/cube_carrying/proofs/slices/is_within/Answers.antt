use Rattle.std.proofs.Common.{[], get_or, ap, ap₂, sym, ◌∙◌}
use Rattle.std.proofs.lemmas.List.{get_or-map}
use Rattle.cube_model.specs.Cubes.{Dimension, up}
use Rattle.cube_model.specs.Dims.{plain, plains, dimension_at}
use Rattle.cube_model.specs.Dims as dims
use Rattle.cube_model.specs.Protection.{listed, no_dimension}
use Rattle.cube_carrying.proofs.slices.is_within.Goals as goal

pub returns : goal.returns
returns c =
    let w = c.args.within.now in
    let leaf = get_or (get_or c.args.core.now.shape.points c.args.place []) c.args.within.now.dimension 0 in
    let here = get_or-map plain c.args.core.now.dims.dimensions c.args.within.now.dimension dims.no_dimension no_dimension c.requires.rules.dimension in
    let member = c.key_at-member.ensures.ancestor ∙ ap (λ (d : Dimension). up d c.args.within.now.level leaf) (sym here) in
    c.is_listed.ensures ∙ ap₂ listed member c.as_slice.ensures

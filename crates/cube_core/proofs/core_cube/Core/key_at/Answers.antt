use Rattle.std.proofs.Common.{length, get_or, ap, subst, ◌∙◌, arith}
use Rattle.cube_model.specs.Cores.{Core, IsCore}
use Rattle.cube_model.specs.Cubes.{up}
use Rattle.cube_model.specs.Dims.{NamedDimension, plain, dimension_at}
use Rattle.cube_core.proofs.Points.{point_read, length-point, leaf_below, dimension_of, up_small}
use Rattle.cube_core.proofs.core_cube.Core.key_at.Goals as goal

pub bounds-as_slice-dimension : goal.bounds-as_slice-dimension
bounds-as_slice-dimension c =
    let rules : IsCore c.args.self.now = subst IsCore c.self.view_is c.self.invariant.0 in
    let points = c.as_slice.ensures ∙ ap (λ (v : Core). v.shape.points) c.self.view_is in
    let read = point_read c.args.self.now c.args.place c.as_slice.result.now c.index-as_slice-place.result c.as_slice-2.result.now rules.points c.requires.place points c.index-as_slice-place.is c.as_slice-2.ensures in
    let size = length-point c.args.self.now.dims.dimensions c.as_slice-2.result.now read.0 in
    omega (arith, size, c.requires.dimension)

pub up-requires-clause-leaf : goal.up-requires-clause-leaf
up-requires-clause-leaf c =
    let rules : IsCore c.args.self.now = subst IsCore c.self.view_is c.self.invariant.0 in
    let points = c.as_slice.ensures ∙ ap (λ (v : Core). v.shape.points) c.self.view_is in
    let read = point_read c.args.self.now c.args.place c.as_slice.result.now c.index-as_slice-place.result c.as_slice-2.result.now rules.points c.requires.place points c.index-as_slice-place.is c.as_slice-2.ensures in
    let leaf = leaf_below c.args.self.now.dims.dimensions c.as_slice-2.result.now c.args.dimension read.0 c.requires.dimension in
    let here = ap (λ (d : NamedDimension). length d.paths) (c.dimension.ensures.dimension ∙ ap (λ (v : Core). dimension_at v.dims c.args.dimension) c.self.view_is) in
    omega (arith, leaf, here)

pub returns-clause-small : goal.returns-clause-small
returns-clause-small c =
    let rules : IsCore c.args.self.now = subst IsCore c.self.view_is c.self.invariant.0 in
    let points = c.as_slice.ensures ∙ ap (λ (v : Core). v.shape.points) c.self.view_is in
    let read = point_read c.args.self.now c.args.place c.as_slice.result.now c.index-as_slice-place.result c.as_slice-2.result.now rules.points c.requires.place points c.index-as_slice-place.is c.as_slice-2.ensures in
    let leaf = leaf_below c.args.self.now.dims.dimensions c.as_slice-2.result.now c.args.dimension read.0 c.requires.dimension in
    let here = c.dimension.ensures.dimension ∙ ap (λ (v : Core). dimension_at v.dims c.args.dimension) c.self.view_is in
    let small = up_small (dimension_at c.args.self.now.dims c.args.dimension) c.args.level (get_or c.as_slice-2.result.now c.args.dimension 0) (dimension_of c.args.self.now.dims.dimensions c.args.dimension rules.dims.each_dimension c.requires.dimension) leaf in
    let e = c.up.ensures ∙ ap (λ (d : NamedDimension). up (plain d) c.args.level (get_or c.as_slice-2.result.now c.args.dimension 0)) here in
    omega (arith, small, e)

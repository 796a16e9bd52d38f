use Rattle.std.proofs.Common.{◌≡◌, ◌∙◌, List, Option, None, length, get_or, ap, sym, arith}
use Rattle.std.proofs.lemmas.List.{get_or_read}
use Rattle.cube_model.specs.declared.request.Pick.{Pick}
use Rattle.cube_model.specs.Dims.{NamedDimension, no_dimension}
use Rattle.cube_core.proofs.Fitting.{lengths_fit, levels_fit}
use Rattle.cube_core.proofs.Points.{length-point, leaf_below}
use Rattle.cube_core.proofs.stretch.takes_point.Goals as goal

pub bounds-as_slice-number : goal.bounds-as_slice-number
bounds-as_slice-number c =
    let sizes = lengths_fit c.args.dimensions.now c.args.request.now.group c.args.request.now.picks c.requires.fits in
    let own = ap length c.as_slice.ensures in
    omega (arith, sizes.1, own, c.requires.number)

pub bounds-point-number : goal.bounds-point-number
bounds-point-number c =
    let size = length-point c.args.dimensions.now c.args.point.now c.requires.point in
    omega (arith, size, c.requires.number)

pub takes-requires-clause-level : goal.takes-requires-clause-level
takes-requires-clause-level c = λ x e.
    let here : c.index-dimensions-number.result ≡ get_or c.args.dimensions.now c.args.number no_dimension = get_or_read c.args.dimensions.now c.args.number c.index-dimensions-number.result c.requires.number c.index-dimensions-number.is no_dimension in
    let fit = (levels_fit c.args.dimensions.now c.args.request.now.group c.args.request.now.picks c.args.number c.requires.fits c.requires.number).1 x (ap (λ (ps : List (Option Pick)). get_or ps c.args.number None) (sym c.as_slice.ensures) ∙ e) in
    let size = ap (λ (d : NamedDimension). length d.levels) here in
    omega (arith, fit, size)

pub takes-requires-clause-leaf : goal.takes-requires-clause-leaf
takes-requires-clause-leaf c =
    let here : c.index-dimensions-number.result ≡ get_or c.args.dimensions.now c.args.number no_dimension = get_or_read c.args.dimensions.now c.args.number c.index-dimensions-number.result c.requires.number c.index-dimensions-number.is no_dimension in
    let leaf = leaf_below c.args.dimensions.now c.args.point.now c.args.number c.requires.point c.requires.number in
    let size = ap (λ (d : NamedDimension). length d.paths) here in
    omega (arith, leaf, size)

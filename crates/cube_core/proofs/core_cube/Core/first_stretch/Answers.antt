use Rattle.std.proofs.Common.{◌∙◌, ℕ, length, sym, ap, arith}
use Rattle.cube_model.specs.Cubes.{count_from}
use Rattle.cube_core.proofs.Fitting.{lengths_fit}
use Rattle.cube_core.proofs.Stretches.{all_taken}
use Rattle.cube_core.proofs.core_cube.Core.first_stretch.Goals as goal

pub returns-then-count-many-clause-taken : goal.returns-then-count-many-clause-taken
returns-then-count-many-clause-taken c =
    ap (λ (n : ℕ). count_from 0 n) c.len-many.ensures.len
    ∙ all_taken c.args.self.now c.args.request.now 0 (sym c.count.ensures ∙ c.if-count-many.true ∙ c.len-many.ensures.len)

pub bounds-as_slice-0 : goal.bounds-as_slice-0
bounds-as_slice-0 c =
    let sizes = lengths_fit c.args.self.now.dims.dimensions c.args.request.now.group c.args.request.now.picks c.requires.fits in
    let own = ap length c.as_slice.ensures in
    let some = c.len-many.ensures.rules.dims.has_dimensions in
    omega (arith, sizes.1, own, some)

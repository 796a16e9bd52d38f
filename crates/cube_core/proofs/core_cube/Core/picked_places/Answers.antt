use Rattle.std.proofs.Common.{◌∙◌, ℕ, List, Bool, length, filter, ap, arith}
use Rattle.cube_model.specs.Cubes.{count_from}
use Rattle.cube_core.specs.Index.{takes_place}
use Rattle.cube_core.proofs.Stretches.{one_before, one_more_before, all_before, before_below}
use Rattle.cube_core.proofs.core_cube.Core.picked_places.Goals as goal

pub dimensions-init : goal.dimensions-init
dimensions-init c = c.in_ok-places.ensures ∙ one_before c.args.self.now c.args.request.now c.dims.ensures.rules c.requires.fits

pub sifted-requires-clause-places : goal.sifted-requires-clause-places
sifted-requires-clause-places c = before_below c.args.self.now c.args.request.now c.dimensions.number c.dimensions.places c.dimensions.invariant

pub dimensions-preserved : goal.dimensions-preserved
dimensions-preserved c =
    let all = ap length (c.dimensions-many.ensures.dimensions ∙ ap (λ s. s.dimensions) c.dims.ensures.dims) in
    c.in_ok-places-2.ensures
    ∙ ap (λ (is : List ℕ). filter (takes_place c.args.self.now c.args.request.now c.dimensions.number) is) c.dimensions.invariant
    ∙ one_more_before c.args.self.now c.args.request.now c.dimensions.number c.dims.ensures.rules c.requires.fits (omega (arith, all, c.dimensions-test.true))

pub returns : goal.returns
returns c =
    let all = ap length (c.dimensions-many.ensures.dimensions ∙ ap (λ s. s.dimensions) c.dims.ensures.dims) in
    c.dimensions.invariant
    ∙ ap (λ (t : ℕ → Bool). filter t (count_from 0 (length c.args.self.now.shape.points))) (all_before c.args.self.now c.args.request.now c.dimensions.number c.requires.fits (omega (arith, all, c.dimensions-test.false)))

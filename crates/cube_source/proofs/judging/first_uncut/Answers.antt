use Rattle.std.specs.List.{flat_map}
use Rattle.std.proofs.Common.{◌≡◌, not, find, List, length, map, filter, sym, ap, ◌∙◌, subst}
use Rattle.std.proofs.lemmas.Result.{IfOk-weaker}
use Rattle.cube_model.specs.declared.answer.Row.{Row}
use Rattle.cube_model.specs.declared.cell.Cell.{Cell}
use Rattle.cube_model.specs.declared.policy.Object.{Object}
use Rattle.cube_model.specs.Cores.{shown}
use Rattle.cube_model.specs.Cubes.{Each, places}
use Rattle.cube_model.specs.Protection.{under, core_cell, is_guarded, uncut}
use Rattle.cube_source.specs.Blocks.{bare, is_parted, AreBlocks}
use Rattle.cube_source.specs.Objects.{of_measure, IsPlaced}
use Rattle.cube_source.proofs.Uncut.{placed, plain_uncut, lattice_uncut, parity_uncut}
use Rattle.cube_source.proofs.judging.first_uncut.Goals as goal

pub returns-in-Plain : goal.returns-in-Plain
returns-in-Plain c = plain_uncut c.args.core.now c.args.policy.now c.args.levels.now c.args.measure (sym c.method.ensures ∙ c.in-Plain.is)

pub uncut_lattice-requires-clause-blocks : goal.uncut_lattice-requires-clause-blocks
uncut_lattice-requires-clause-blocks c = subst (AreBlocks (length c.args.core.now.shape.points)) (sym c.as_slice.ensures) c.in_ok-blocks-in-Lattice.ensures.places

pub uncut_lattice-requires-clause-objects : goal.uncut_lattice-requires-clause-objects
uncut_lattice-requires-clause-objects c = subst (Each (IsPlaced c.args.core.now.dims)) (sym c.as_slice-objects.ensures) (placed c.args.core.now.dims c.args.policy.now c.args.policy.now.objects c.requires.policy.objects)

pub uncut_parity-requires-clause-blocks : goal.uncut_parity-requires-clause-blocks
uncut_parity-requires-clause-blocks c = subst (AreBlocks (length c.args.core.now.shape.points)) (sym c.as_slice-in-Parity.ensures) c.in_ok-blocks-in-Parity.ensures.places

pub uncut_parity-requires-clause-objects : goal.uncut_parity-requires-clause-objects
uncut_parity-requires-clause-objects c = subst (Each (IsPlaced c.args.core.now.dims)) (sym c.as_slice-objects.ensures) (placed c.args.core.now.dims c.args.policy.now c.args.policy.now.objects c.requires.policy.objects)

pub returns-in_ok-blocks-in-Lattice : goal.returns-in_ok-blocks-in-Lattice
returns-in_ok-blocks-in-Lattice c =
    let found = λ (blocks : List Row) (os : List Object). find (λ (t : Cell). not (is_parted (bare c.args.core.now) blocks t)) (flat_map (under (bare c.args.core.now)) (of_measure c.args.measure os)) in
    IfOk-weaker c.uncut_lattice.result (λ o. o ≡ found c.as_slice.result.now c.as_slice-objects.result.now) (λ o. o ≡ uncut (shown c.args.core.now c.args.policy.now) c.args.levels.now c.args.measure)
    (λ o e. e ∙ ap (found c.as_slice.result.now) c.as_slice-objects.ensures
    ∙ lattice_uncut c.args.core.now c.args.policy.now c.args.levels.now c.args.measure c.as_slice.result.now (sym c.method.ensures ∙ c.in-Lattice.is) (c.as_slice.ensures ∙ c.in_ok-blocks-in-Lattice.ensures.rows))
    c.uncut_lattice.ensures

pub returns-in_ok-blocks-in-Parity : goal.returns-in_ok-blocks-in-Parity
returns-in_ok-blocks-in-Parity c =
    let found = λ (blocks : List Row) (os : List Object). find (λ (t : Cell). not (is_parted (bare c.args.core.now) blocks t)) (map (core_cell (bare c.args.core.now)) (filter (is_guarded (bare c.args.core.now) (of_measure c.args.measure os)) (places (bare c.args.core.now)))) in
    IfOk-weaker c.uncut_parity.result (λ o. o ≡ found c.as_slice-in-Parity.result.now c.as_slice-objects.result.now) (λ o. o ≡ uncut (shown c.args.core.now c.args.policy.now) c.args.levels.now c.args.measure)
    (λ o e. e ∙ ap (found c.as_slice-in-Parity.result.now) c.as_slice-objects.ensures
    ∙ parity_uncut c.args.core.now c.args.policy.now c.args.levels.now c.args.measure c.as_slice-in-Parity.result.now (sym c.method.ensures ∙ c.in-Parity.is) (c.as_slice-in-Parity.ensures ∙ c.in_ok-blocks-in-Parity.ensures.rows))
    c.uncut_parity.ensures

use Rattle.std.specs.Option.{option_map}
use Rattle.std.proofs.Common.{ℕ, Bool, false, not, ◌&&◌, List, length, get_or, Some, sym, ap, ap₂, ◌∙◌, subst, arith}
use Rattle.cube_model.proofs.Leasts.{finds_least}
use Rattle.cube_model.specs.declared.cell.Cell.{Cell}
use Rattle.cube_model.specs.Cubes.{are_levels, core, key_at}
use Rattle.cube_model.specs.Dims.{plains}
use Rattle.cube_model.specs.Protection.{is_guarded, core_cell}
use Rattle.cube_source.specs.Blocks.{bare, is_mixed, AreFlags}
use Rattle.cube_source.specs.Objects.{of_measure}
use Rattle.cube_source.proofs.Keys.{finest_levels}
use Rattle.cube_source.proofs.Uncut.{first_core_cell}
use Rattle.cube_source.proofs.judging.uncut_parity.Goals as goal

pub mixed_places-requires-clause-levels : goal.mixed_places-requires-clause-levels
mixed_places-requires-clause-levels c = ap (are_levels (plains c.args.core.now.dims)) c.in_ok-levels.ensures ∙ finest_levels (plains c.args.core.now.dims)

pub key_of-requires-clause-levels : goal.key_of-requires-clause-levels
key_of-requires-clause-levels c = ap (are_levels (plains c.args.core.now.dims)) (c.as_slice-in-Some.ensures ∙ c.in_ok-levels.ensures) ∙ finest_levels (plains c.args.core.now.dims)

pub key_of-requires-clause-place : goal.key_of-requires-clause-place
key_of-requires-clause-place c =
    let test = λ (k : ℕ). is_guarded (bare c.args.core.now) (of_measure c.args.measure c.args.objects.now) k && not (get_or c.as_slice.result.now k false) in
    let least = finds_least test 0 (length c.args.core.now.shape.points) c.in-Some.place (sym c.unmixed_place.ensures ∙ c.in-Some.is) in
    let below = least.below in
    omega (arith, below)

pub returns-in-None : goal.returns-in-None
returns-in-None c =
    let flags = subst (λ (fs : List Bool). AreFlags (length c.args.core.now.shape.points) (is_mixed (bare c.args.core.now) (core (bare c.args.core.now)) c.args.blocks.now) fs) (sym c.as_slice.ensures.value)
    (subst (λ (ls : List ℕ). AreFlags (length c.args.core.now.shape.points) (is_mixed (bare c.args.core.now) ls c.args.blocks.now) c.in_ok-mixed.mixed.items) c.in_ok-levels.ensures c.in_ok-mixed.ensures) in
    ap (option_map (core_cell (bare c.args.core.now))) (sym c.in-None.is ∙ c.unmixed_place.ensures)
    ∙ first_core_cell c.args.core.now (of_measure c.args.measure c.args.objects.now) c.args.blocks.now c.as_slice.result.now c.dims-rules.ensures.rules c.requires.blocks flags

pub returns-in_ok-key-in-Some : goal.returns-in_ok-key-in-Some
returns-in_ok-key-in-Some c =
    let flags = subst (λ (fs : List Bool). AreFlags (length c.args.core.now.shape.points) (is_mixed (bare c.args.core.now) (core (bare c.args.core.now)) c.args.blocks.now) fs) (sym c.as_slice.ensures.value)
    (subst (λ (ls : List ℕ). AreFlags (length c.args.core.now.shape.points) (is_mixed (bare c.args.core.now) ls c.args.blocks.now) c.in_ok-mixed.mixed.items) c.in_ok-levels.ensures c.in_ok-mixed.ensures) in
    let key = c.in_ok-key-in-Some.ensures ∙ ap (λ (ls : List ℕ). key_at (bare c.args.core.now) ls c.in-Some.place) (c.as_slice-in-Some.ensures ∙ c.in_ok-levels.ensures) in
    ap₂ (λ (ls k : List ℕ). let t : Cell = record { levels = ls; key = k } in Some t) c.in_ok-levels.ensures key
    ∙ ap (option_map (core_cell (bare c.args.core.now))) (sym c.in-Some.is ∙ c.unmixed_place.ensures)
    ∙ first_core_cell c.args.core.now (of_measure c.args.measure c.args.objects.now) c.args.blocks.now c.as_slice.result.now c.dims-rules.ensures.rules c.requires.blocks flags

use Rattle.std.specs.List.{flat_map}
use Rattle.std.proofs.Common.{◌≡◌, List, not, find, filter, map, Option, sym, ap, ap₂, ◌∙◌, subst, arith}
use Rattle.std.proofs.lemmas.Result.{IfOk-weaker}
use Rattle.cube_model.specs.declared.cell.Cell.{Cell}
use Rattle.cube_model.specs.declared.policy.Object.{Object}
use Rattle.cube_model.specs.Cubes.{Each, places}
use Rattle.cube_model.specs.Dims.{Dims}
use Rattle.cube_model.specs.Protection.{under, core_cell, is_guarded, protected}
use Rattle.cube_carry.specs.Continues.{protects}
use Rattle.cube_carry.specs.Names.{named, known, measure_in}
use Rattle.cube_source.specs.Blocks.{bare}
use Rattle.cube_source.specs.Objects.{IsPlaced, of_measure}
use Rattle.cube_source.proofs.Uncut.{placed}
use Rattle.cube_carrying.specs.KeptCells as said
use Rattle.cube_carrying.proofs.Opened.{is_there}
use Rattle.cube_carrying.proofs.Shielded.{carries, stands_suffice, guards_suffice, plain_none, lattice_first, parity_first}
use Rattle.cube_carrying.proofs.cells.unprotected_on.Goals as goal

pub overflow_cast-number : goal.overflow_cast-number
overflow_cast-number c =
    let below = (is_there (named c.args.old.now c.args.old_policy.now) (named c.args.new.now c.args.new_policy.now) c.args.measure c.requires.parts c.requires.measure).there in
    let is = c.measure_in-number.ensures ∙ ap₂ (λ (s z : Dims). measure_in s z c.args.measure) c.dims-old_dims.ensures.dims c.dims-new_dims.ensures.dims in
    omega (arith, below, is, c.dims-new_dims.ensures.rules.dims.few_measures)

pub returns-in-Plain : goal.returns-in-Plain
returns-in-Plain c =
    let is = c.measure_in-number.ensures ∙ ap₂ (λ (s z : Dims). measure_in s z c.args.measure) c.dims-old_dims.ensures.dims c.dims-new_dims.ensures.dims in
    sym (plain_none c.args.old.now c.args.new.now c.args.old_policy.now c.args.new_policy.now c.dims-old_dims.ensures.rules c.dims-new_dims.ensures.rules c.requires.new_policy c.requires.parts c.args.measure c.requires.measure c.measure_in-number.result is c.as_slice-places.result.now (c.as_slice-places.ensures ∙ c.requires.places) (sym c.method.ensures ∙ c.in-Plain.is))

pub unkept_lattice-requires-clause-carries : goal.unkept_lattice-requires-clause-carries
unkept_lattice-requires-clause-carries c =
    let is = c.measure_in-number.ensures ∙ ap₂ (λ (s z : Dims). measure_in s z c.args.measure) c.dims-old_dims.ensures.dims c.dims-new_dims.ensures.dims in
    carries c.args.old.now c.args.new.now c.args.old_policy.now c.args.new_policy.now c.dims-old_dims.ensures.rules c.dims-new_dims.ensures.rules c.requires.new_policy c.requires.parts c.args.measure c.requires.measure c.measure_in-number.result is c.as_slice-places.result.now (c.as_slice-places.ensures ∙ c.requires.places)

pub unkept_lattice-requires-clause-suffice : goal.unkept_lattice-requires-clause-suffice
unkept_lattice-requires-clause-suffice c =
    let is = c.measure_in-number.ensures ∙ ap₂ (λ (s z : Dims). measure_in s z c.args.measure) c.dims-old_dims.ensures.dims c.dims-new_dims.ensures.dims in
    stands_suffice c.args.old.now c.args.new.now c.args.old_policy.now c.args.new_policy.now c.dims-old_dims.ensures.rules c.dims-new_dims.ensures.rules c.requires.new_policy c.requires.parts c.args.measure c.requires.measure c.measure_in-number.result is c.as_slice-places.result.now (c.as_slice-places.ensures ∙ c.requires.places) (sym c.method.ensures ∙ c.in-Lattice.is)

pub unkept_parity-requires-clause-carries : goal.unkept_parity-requires-clause-carries
unkept_parity-requires-clause-carries c =
    let is = c.measure_in-number.ensures ∙ ap₂ (λ (s z : Dims). measure_in s z c.args.measure) c.dims-old_dims.ensures.dims c.dims-new_dims.ensures.dims in
    carries c.args.old.now c.args.new.now c.args.old_policy.now c.args.new_policy.now c.dims-old_dims.ensures.rules c.dims-new_dims.ensures.rules c.requires.new_policy c.requires.parts c.args.measure c.requires.measure c.measure_in-number.result is c.as_slice-places.result.now (c.as_slice-places.ensures ∙ c.requires.places)

pub unkept_parity-requires-clause-suffice : goal.unkept_parity-requires-clause-suffice
unkept_parity-requires-clause-suffice c =
    let is = c.measure_in-number.ensures ∙ ap₂ (λ (s z : Dims). measure_in s z c.args.measure) c.dims-old_dims.ensures.dims c.dims-new_dims.ensures.dims in
    guards_suffice c.args.old.now c.args.new.now c.args.old_policy.now c.args.new_policy.now c.dims-old_dims.ensures.rules c.dims-new_dims.ensures.rules c.requires.new_policy c.requires.parts c.args.measure c.requires.measure c.measure_in-number.result is c.as_slice-places.result.now (c.as_slice-places.ensures ∙ c.requires.places) (sym c.method.ensures ∙ c.in-Parity.is)

pub unkept_lattice-requires-clause-objects : goal.unkept_lattice-requires-clause-objects
unkept_lattice-requires-clause-objects c = subst (Each (IsPlaced c.args.old.now.dims)) (sym c.as_slice-objects.ensures) (placed c.args.old.now.dims c.args.old_policy.now c.args.old_policy.now.objects c.requires.old_policy.objects)

pub returns-in-Lattice : goal.returns-in-Lattice
returns-in-Lattice c =
    let is = c.measure_in-number.ensures ∙ ap₂ (λ (s z : Dims). measure_in s z c.args.measure) c.dims-old_dims.ensures.dims c.dims-new_dims.ensures.dims in
    let found = λ (os : List Object). find (λ (t : Cell). not (said.is_kept c.args.old.now c.args.new.now c.args.new_policy.now c.measure_in-number.result t)) (flat_map (under (bare c.args.old.now)) (of_measure c.args.measure os)) in
    IfOk-weaker c.unkept_lattice.result (λ (o : Option Cell). o ≡ found c.as_slice-objects.result.now) (λ (o : Option Cell). o ≡ find (λ t. not (protects (named c.args.old.now c.args.old_policy.now) (named c.args.new.now c.args.new_policy.now) c.args.measure t)) (protected (known (named c.args.old.now c.args.old_policy.now)) c.args.measure))
    (λ o e. e ∙ ap found c.as_slice-objects.ensures ∙ lattice_first c.args.old.now c.args.new.now c.args.old_policy.now c.args.new_policy.now c.dims-old_dims.ensures.rules c.dims-new_dims.ensures.rules c.requires.new_policy c.requires.parts c.args.measure c.requires.measure c.measure_in-number.result is c.as_slice-places.result.now (c.as_slice-places.ensures ∙ c.requires.places) (sym c.method.ensures ∙ c.in-Lattice.is)) c.unkept_lattice.ensures

pub returns-in-Parity : goal.returns-in-Parity
returns-in-Parity c =
    let is = c.measure_in-number.ensures ∙ ap₂ (λ (s z : Dims). measure_in s z c.args.measure) c.dims-old_dims.ensures.dims c.dims-new_dims.ensures.dims in
    IfOk-weaker c.unkept_parity.result (λ (o : Option Cell). o ≡ find (λ (t : Cell). not (said.is_kept c.args.old.now c.args.new.now c.args.new_policy.now c.measure_in-number.result t)) (map (core_cell (bare c.args.old.now)) (filter (is_guarded (bare c.args.old.now) (of_measure c.args.measure c.args.old_policy.now.objects)) (places (bare c.args.old.now))))) (λ (o : Option Cell). o ≡ find (λ t. not (protects (named c.args.old.now c.args.old_policy.now) (named c.args.new.now c.args.new_policy.now) c.args.measure t)) (protected (known (named c.args.old.now c.args.old_policy.now)) c.args.measure))
    (λ o e. e ∙ parity_first c.args.old.now c.args.new.now c.args.old_policy.now c.args.new_policy.now c.dims-old_dims.ensures.rules c.dims-new_dims.ensures.rules c.requires.new_policy c.requires.parts c.args.measure c.requires.measure c.measure_in-number.result is c.as_slice-places.result.now (c.as_slice-places.ensures ∙ c.requires.places) (sym c.method.ensures ∙ c.in-Parity.is)) c.unkept_parity.ensures

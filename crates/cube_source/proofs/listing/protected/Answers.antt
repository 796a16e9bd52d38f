use Rattle.std.specs.List.{flat_map}
use Rattle.std.proofs.Common.{◌≡◌, List, map, filter, take, sym, ap, ◌∙◌, subst}
use Rattle.std.proofs.lemmas.Result.{IfOk-weaker}
use Rattle.cube_model.specs.declared.cell.Cell.{Cell}
use Rattle.cube_model.specs.declared.policy.Method.TheVariants.{Plain}
use Rattle.cube_model.specs.declared.policy.Object.{Object}
use Rattle.cube_model.specs.Cores.{shown}
use Rattle.cube_model.specs.Cubes.{Each, places}
use Rattle.cube_model.specs.Protection.{under, each_once, core_cell, is_guarded, protected}
use Rattle.cube_source.specs.Blocks.{bare}
use Rattle.cube_source.specs.Objects.{of_measure, IsPlaced}
use Rattle.cube_source.proofs.Among.{of_method, lattice_all, parity_all}
use Rattle.cube_source.proofs.Growing.{none_taken}
use Rattle.cube_source.proofs.Uncut.{placed}
use Rattle.cube_source.proofs.listing.protected.Goals as goal

pub lattice_cells-requires : goal.lattice_cells-requires
lattice_cells-requires c = record { objects = subst (Each (IsPlaced c.args.core.now.dims)) (sym c.as_slice-objects.ensures) (placed c.args.core.now.dims c.args.policy.now c.args.policy.now.objects c.requires.policy.objects) }

pub parity_cells-requires : goal.parity_cells-requires
parity_cells-requires c = record { objects = subst (Each (IsPlaced c.args.core.now.dims)) (sym c.as_slice-objects.ensures) (placed c.args.core.now.dims c.args.policy.now c.args.policy.now.objects c.requires.policy.objects) }

pub returns-in-Plain : goal.returns-in-Plain
returns-in-Plain c = c.new.ensures ∙ sym (none_taken {X = Cell} c.args.most) ∙ ap (take c.args.most) (sym (of_method c.args.core.now c.args.policy.now c.args.measure Plain (sym c.method.ensures ∙ c.in-Plain.is)))

pub returns-in-Lattice : goal.returns-in-Lattice
returns-in-Lattice c =
    let all = λ (os : List Object). take c.args.most (each_once (flat_map (under (bare c.args.core.now)) (of_measure c.args.measure os))) in
    IfOk-weaker c.lattice_cells.result (λ (ts : List Cell). ts ≡ all c.as_slice-objects.result.now) (λ (ts : List Cell). ts ≡ take c.args.most (protected (shown c.args.core.now c.args.policy.now) c.args.measure))
    (λ ts e. e ∙ ap all c.as_slice-objects.ensures ∙ ap (take c.args.most) (lattice_all c.args.core.now c.args.policy.now c.args.measure (sym c.method.ensures ∙ c.in-Lattice.is))) c.lattice_cells.ensures

pub returns-in-Parity : goal.returns-in-Parity
returns-in-Parity c =
    let all = λ (os : List Object). take c.args.most (map (core_cell (bare c.args.core.now)) (filter (is_guarded (bare c.args.core.now) (of_measure c.args.measure os)) (places (bare c.args.core.now)))) in
    IfOk-weaker c.parity_cells.result (λ (ts : List Cell). ts ≡ all c.as_slice-objects.result.now) (λ (ts : List Cell). ts ≡ take c.args.most (protected (shown c.args.core.now c.args.policy.now) c.args.measure))
    (λ ts e. e ∙ ap all c.as_slice-objects.ensures ∙ ap (take c.args.most) (parity_all c.args.core.now c.args.policy.now c.args.measure (sym c.method.ensures ∙ c.in-Parity.is))) c.parity_cells.ensures

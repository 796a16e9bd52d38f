use Rattle.std.specs.List.{list_all, list_any}
use Rattle.std.proofs.Common.{◌&&◌, List, eqb, sym, ap, ◌∙◌, subst}
use Rattle.cube_model.specs.declared.policy.Object.{Object}
use Rattle.cube_model.specs.Cubes.{Each, covers, places}
use Rattle.cube_model.specs.Protection.{is_guarded}
use Rattle.cube_source.specs.Blocks.{bare}
use Rattle.cube_source.specs.Objects.{of_measure, IsPlaced}
use Rattle.cube_source.proofs.Among.{stands, plain_protects, lattice_protects, parity_protects}
use Rattle.cube_source.proofs.Uncut.{placed}
use Rattle.cube_source.proofs.protecting.protects.Goals as goal

pub stands_under-requires-clause-objects : goal.stands_under-requires-clause-objects
stands_under-requires-clause-objects c = subst (Each (IsPlaced c.args.core.now.dims)) (sym c.as_slice-objects.ensures) (placed c.args.core.now.dims c.args.policy.now c.args.policy.now.objects c.requires.policy.objects)

pub is_guarded_core-requires-clause-objects : goal.is_guarded_core-requires-clause-objects
is_guarded_core-requires-clause-objects c = subst (Each (IsPlaced c.args.core.now.dims)) (sym c.as_slice-objects.ensures) (placed c.args.core.now.dims c.args.policy.now c.args.policy.now.objects c.requires.policy.objects)

pub returns-in-Plain : goal.returns-in-Plain
returns-in-Plain c = plain_protects c.args.core.now c.args.policy.now c.args.measure c.args.cell.now (sym c.method.ensures ∙ c.in-Plain.is)

pub returns-in-Lattice : goal.returns-in-Lattice
returns-in-Lattice c = c.stands_under.ensures ∙ ap (list_any (stands c.args.core.now c.args.measure c.args.cell.now)) c.as_slice-objects.ensures ∙ lattice_protects c.args.core.now c.args.policy.now c.args.measure c.args.cell.now (sym c.method.ensures ∙ c.in-Lattice.is)

pub returns-in-Parity : goal.returns-in-Parity
returns-in-Parity c =
    c.is_guarded_core.ensures
    ∙ ap (λ (os : List Object). list_all (λ l. eqb l 0) c.args.cell.now.levels && list_any (λ i. covers (bare c.args.core.now) c.args.cell.now i && is_guarded (bare c.args.core.now) (of_measure c.args.measure os) i) (places (bare c.args.core.now))) c.as_slice-objects.ensures
    ∙ parity_protects c.args.core.now c.args.policy.now c.args.measure c.args.cell.now (sym c.method.ensures ∙ c.in-Parity.is) c.requires.cell

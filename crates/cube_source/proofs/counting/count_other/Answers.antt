use Rattle.std.proofs.Common.{List, length, filter, sym, ap, ◌∙◌, subst}
use Rattle.cube_model.specs.declared.policy.Object.{Object}
use Rattle.cube_model.specs.Cubes.{Each, places}
use Rattle.cube_model.specs.Protection.{is_guarded}
use Rattle.cube_source.specs.Blocks.{bare}
use Rattle.cube_source.specs.Objects.{of_measure, IsPlaced}
use Rattle.cube_source.proofs.Adding.{other_plain, other_lattice, other_parity}
use Rattle.cube_source.proofs.Uncut.{placed}
use Rattle.cube_source.proofs.counting.count_other.Goals as goal

pub returns-in-Plain-clause-count : goal.returns-in-Plain-clause-count
returns-in-Plain-clause-count c = other_plain c.args.core.now c.args.policy.now c.args.measure (sym c.method.ensures ∙ c.in-Plain.is)

pub returns-in-Lattice-clause-count : goal.returns-in-Lattice-clause-count
returns-in-Lattice-clause-count c = other_lattice c.args.core.now c.args.policy.now c.args.measure (sym c.method.ensures ∙ c.in-Lattice.is)

pub count_parity-requires : goal.count_parity-requires
count_parity-requires c = record { objects = subst (Each (IsPlaced c.args.core.now.dims)) (sym c.as_slice.ensures) (placed c.args.core.now.dims c.args.policy.now c.args.policy.now.objects c.requires.policy.objects) }

pub returns-in-Parity-clause-count : goal.returns-in-Parity-clause-count
returns-in-Parity-clause-count c =
    c.count_parity.ensures.count
    ∙ ap (λ (os : List Object). length (filter (is_guarded (bare c.args.core.now) (of_measure c.args.measure os)) (places (bare c.args.core.now)))) c.as_slice.ensures
    ∙ other_parity c.args.core.now c.args.policy.now c.args.measure (sym c.method.ensures ∙ c.in-Parity.is)

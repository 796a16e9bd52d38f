use Rattle.std.specs.List.{flat_map}
use Rattle.std.proofs.Common.{◌≡◌, ℕ, List, length, filter, sym, ap, ◌∙◌, subst}
use Rattle.std.proofs.lemmas.List.{length-map}
use Rattle.std.proofs.lemmas.Result.{IfOk-weaker}
use Rattle.cube_model.specs.declared.policy.Method.TheVariants.{Plain}
use Rattle.cube_model.specs.declared.policy.Object.{Object}
use Rattle.cube_model.specs.Cores.{shown}
use Rattle.cube_model.specs.Cubes.{Each, places}
use Rattle.cube_model.specs.Protection.{under, each_once, core_cell, is_guarded, protected}
use Rattle.cube_source.specs.Blocks.{bare}
use Rattle.cube_source.specs.Objects.{of_measure, IsPlaced}
use Rattle.cube_source.proofs.Among.{of_method, lattice_all, parity_all}
use Rattle.cube_source.proofs.Uncut.{placed}
use Rattle.cube_source.proofs.counting.count_protected.Goals as goal

pub count_one-requires : goal.count_one-requires
count_one-requires c = record { objects = subst (Each (IsPlaced c.args.core.now.dims)) (sym c.as_slice-objects.ensures) (placed c.args.core.now.dims c.args.policy.now c.args.policy.now.objects c.requires.policy.objects) }

pub count_parity-requires : goal.count_parity-requires
count_parity-requires c = record { objects = subst (Each (IsPlaced c.args.core.now.dims)) (sym c.as_slice-objects.ensures) (placed c.args.core.now.dims c.args.policy.now c.args.policy.now.objects c.requires.policy.objects) }

pub returns-in-Plain-clause-count : goal.returns-in-Plain-clause-count
returns-in-Plain-clause-count c = ap length (sym (of_method c.args.core.now c.args.policy.now c.args.measure Plain (sym c.method.ensures ∙ c.in-Plain.is)))

pub returns-in-Lattice-clause-count : goal.returns-in-Lattice-clause-count
returns-in-Lattice-clause-count c =
    let all = λ (os : List Object). length (each_once (flat_map (under (bare c.args.core.now)) (of_measure c.args.measure os))) in
    IfOk-weaker c.count_one.result (λ (n : ℕ). n ≡ all c.as_slice-objects.result.now) (λ (n : ℕ). n ≡ length (protected (shown c.args.core.now c.args.policy.now) c.args.measure))
    (λ n e. e ∙ ap all c.as_slice-objects.ensures ∙ ap length (lattice_all c.args.core.now c.args.policy.now c.args.measure (sym c.method.ensures ∙ c.in-Lattice.is))) c.count_one.ensures.count

pub returns-in-Parity-clause-count : goal.returns-in-Parity-clause-count
returns-in-Parity-clause-count c =
    let guarded = λ (os : List Object). filter (is_guarded (bare c.args.core.now) (of_measure c.args.measure os)) (places (bare c.args.core.now)) in
    c.count_parity.ensures.count ∙ ap (λ (os : List Object). length (guarded os)) c.as_slice-objects.ensures
    ∙ sym (length-map (guarded c.args.policy.now.objects) (core_cell (bare c.args.core.now)))
    ∙ ap length (parity_all c.args.core.now c.args.policy.now c.args.measure (sym c.method.ensures ∙ c.in-Parity.is))

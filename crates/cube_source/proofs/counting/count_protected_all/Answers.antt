use Rattle.std.specs.List.{sum_by}
use Rattle.std.proofs.Common.{ℕ, List, length, sym, ap, ap₂, ◌+◌, ◌∙◌, subst, arith}
use Rattle.cube_model.specs.declared.policy.Object.{Object}
use Rattle.cube_model.specs.Cubes.{Each, count_from}
use Rattle.cube_model.proofs.Sums.{length-count_from}
use Rattle.cube_source.specs.Blocks.{bare}
use Rattle.cube_source.specs.Counts.{has_source, under_count}
use Rattle.cube_source.specs.Objects.{IsPlaced}
use Rattle.cube_source.proofs.Adding.{protected_all}
use Rattle.cube_source.proofs.Growing.{filter_fewer}
use Rattle.cube_source.proofs.Uncut.{placed}
use Rattle.cube_source.proofs.counting.count_protected_all.Goals as goal

pub count_lattice-requires-clause-objects : goal.count_lattice-requires-clause-objects
count_lattice-requires-clause-objects c = subst (Each (IsPlaced c.args.core.now.dims)) (sym c.as_slice-objects.ensures) (placed c.args.core.now.dims c.args.policy.now c.args.policy.now.objects c.requires.objects)

pub count_lattice-requires-clause-few : goal.count_lattice-requires-clause-few
count_lattice-requires-clause-few c =
    let same = ap length (c.as_slice.ensures.value ∙ c.in_ok-measures.ensures) in
    let fewer = filter_fewer (has_source c.args.policy.now) (count_from 0 (length c.args.policy.now.methods)) in
    let size = length-count_from 0 (length c.args.policy.now.methods) in
    let methods = c.requires.methods in
    let few = c.dims-rules.ensures.rules.dims.few_measures in
    omega (arith, same, fewer, size, methods, few)

pub returns : goal.returns
returns c =
    ap₂ (λ (a b : ℕ). a + b)
    (c.in_ok-cells.ensures.count ∙ ap₂ (λ (os : List Object) (ms : List ℕ). sum_by (under_count (bare c.args.core.now) os) ms) c.as_slice-objects.ensures (c.as_slice.ensures.value ∙ c.in_ok-measures.ensures))
    c.count_others.ensures.count
    ∙ protected_all c.args.core.now c.args.policy.now

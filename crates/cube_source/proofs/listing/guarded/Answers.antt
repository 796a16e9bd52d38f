use Rattle.std.proofs.Common.{◌≡◌, ◌++◌, ◌∷◌, [], ℕ, List, length, filter, sym, ap, ◌∙◌, subst, arith}
use Rattle.cube_model.specs.declared.policy.Object.{Object}
use Rattle.cube_model.specs.Cubes.{Each, count_from, key_at}
use Rattle.cube_model.specs.Protection.{is_guarded}
use Rattle.cube_source.specs.Blocks.{bare}
use Rattle.cube_source.specs.Objects.{of_measure, IsPlaced}
use Rattle.cube_source.proofs.Growing.{number_passed, number_failed}
use Rattle.cube_source.proofs.Uncut.{placed}
use Rattle.cube_source.proofs.listing.guarded.Goals as goal
use Rattle.cube_source.proofs.listing.guarded.Goals.{then-is_guarded+in_ok-push, else-is_guarded}

pub is_guarded-requires-clause-objects : goal.is_guarded-requires-clause-objects
is_guarded-requires-clause-objects c = subst (Each (IsPlaced c.args.core.now.dims)) (sym c.as_slice-objects.ensures) (placed c.args.core.now.dims c.args.policy.now c.args.policy.now.objects c.requires.policy.objects)

pub places-preserved : goal.places-preserved
places-preserved c =
    let test = is_guarded (bare c.args.core.now) (of_measure c.args.measure c.as_slice-objects.result.now) in
    elim c.if-is_guarded.branch [
      | then-is_guarded+in_ok-push w ↦ w.found-is ∙ w.in_ok-push.ensures.ok ∙ ap (λ (ps : List ℕ). ps ++ c.places.place ∷ []) c.places.invariant ∙ sym (number_passed test c.places.place (sym c.is_guarded.ensures ∙ w.if-is_guarded.true))
      | else-is_guarded w ↦ w.found-is ∙ c.places.invariant ∙ sym (number_failed test c.places.place (sym c.is_guarded.ensures ∙ w.if-is_guarded.false))
    ]

pub returns : goal.returns
unfolding key_at
returns c =
    let size = c.len-place-end.ensures.len in
    let end = c.places.auto.place-end in
    let all : c.places.place ≡ length c.args.core.now.shape.points = omega (arith, size, end, c.places-test.false) in
    c.places.invariant
    ∙ ap (λ (n : ℕ). filter (is_guarded (bare c.args.core.now) (of_measure c.args.measure c.as_slice-objects.result.now)) (count_from 0 n)) all
    ∙ ap (λ (os : List Object). filter (is_guarded (bare c.args.core.now) (of_measure c.args.measure os)) (count_from 0 (length c.args.core.now.shape.points))) c.as_slice-objects.ensures

use Rattle.std.proofs.Common.{ℕ, List, length, position, not, ap, ap₂, ◌∙◌, arith}
use Rattle.cube_model.specs.Cores.{shown}
use Rattle.cube_model.specs.Links.{is_free}
use Rattle.cube_model.specs.Protection as protection
use Rattle.cube_colour.specs.Colourings.{Colouring}
use Rattle.cube_carrying.proofs.Fixing.{is_fixed, none_fixed, fixed_is, fixed_below, fixed_place, guarded_within}
use Rattle.cube_carrying.proofs.links.fixed_cell.Goals as goal

pub first_fixed-requires : goal.first_fixed-requires
first_fixed-requires c = guarded_within (shown c.args.core.now c.args.policy.now) c.args.measure c.in_ok-colouring.colouring.places c.as_slice.result.now (c.as_slice.ensures ∙ c.in_ok-guarded.ensures) (ap (λ (d : Colouring). d.places) c.in_ok-colouring.ensures ∙ c.len.ensures.len)

pub returns-in-None : goal.returns-in-None
returns-in-None c =
    let n = c.len.ensures.len in
    none_fixed (shown c.args.core.now c.args.policy.now) (length c.args.core.now.shape.points) c.args.links.now (protection.guarded (shown c.args.core.now c.args.policy.now) c.args.measure)
    (c.in-None.ensures
    ∙ ap₂ (λ (d : Colouring) (is : List ℕ). position (λ i. not (is_free d.places d.kept i)) is) c.in_ok-colouring.ensures (c.as_slice.ensures ∙ c.in_ok-guarded.ensures)
    ∙ ap (λ (k : ℕ). position (is_fixed k c.args.links.now) (protection.guarded (shown c.args.core.now c.args.policy.now) c.args.measure)) n)

pub protected_cell-requires-clause-number : goal.protected_cell-requires-clause-number
protected_cell-requires-clause-number c =
    let n = c.len.ensures.len in
    fixed_below (shown c.args.core.now c.args.policy.now) c.args.measure (length c.args.core.now.shape.points) c.args.links.now c.in-Some.number c.requires.parity
    (c.in-Some.ensures
    ∙ ap₂ (λ (d : Colouring) (is : List ℕ). position (λ i. not (is_free d.places d.kept i)) is) c.in_ok-colouring.ensures (c.as_slice.ensures ∙ c.in_ok-guarded.ensures)
    ∙ ap (λ (k : ℕ). position (is_fixed k c.args.links.now) (protection.guarded (shown c.args.core.now c.args.policy.now) c.args.measure)) n)

pub protected_cell-requires-clause-small : goal.protected_cell-requires-clause-small
protected_cell-requires-clause-small c =
    let n = c.len.ensures.len in
    let few = c.len.ensures.rules.few_points in
    let below = fixed_place (shown c.args.core.now c.args.policy.now) c.args.measure (length c.args.core.now.shape.points) c.args.links.now c.in-Some.number
    (c.in-Some.ensures
    ∙ ap₂ (λ (d : Colouring) (is : List ℕ). position (λ i. not (is_free d.places d.kept i)) is) c.in_ok-colouring.ensures (c.as_slice.ensures ∙ c.in_ok-guarded.ensures)
    ∙ ap (λ (k : ℕ). position (is_fixed k c.args.links.now) (protection.guarded (shown c.args.core.now c.args.policy.now) c.args.measure)) n) in
    omega (arith, few, below)

pub returns : goal.returns
returns c =
    let n = c.len.ensures.len in
    fixed_is (shown c.args.core.now c.args.policy.now) c.args.measure (length c.args.core.now.shape.points) c.args.links.now c.in-Some.number c.in_ok-protected_cell-in-Some.field-0 c.requires.parity
    (c.in-Some.ensures
    ∙ ap₂ (λ (d : Colouring) (is : List ℕ). position (λ i. not (is_free d.places d.kept i)) is) c.in_ok-colouring.ensures (c.as_slice.ensures ∙ c.in_ok-guarded.ensures)
    ∙ ap (λ (k : ℕ). position (is_fixed k c.args.links.now) (protection.guarded (shown c.args.core.now c.args.policy.now) c.args.measure)) n)
    c.in_ok-protected_cell-in-Some.ensures

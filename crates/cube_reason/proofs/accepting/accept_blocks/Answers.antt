use Rattle.std.proofs.Common.{List, ℕ, is_some, sym, ap, ◌∙◌}
use Rattle.cube_model.specs.declared.cell.Cell.{Cell}
use Rattle.cube_model.specs.Reasons.{are_blocks}
use Rattle.cube_reason.specs.Cases.{public_of}
use Rattle.cube_reason.specs.Made.{same_cells}
use Rattle.cube_reason.proofs.Made.{cut_makes_none, uncut_makes, blocks_bare}
use Rattle.cube_reason.proofs.accepting.accept_blocks.Goals as goal

pub returns-in-Some : goal.returns-in-Some
returns-in-Some c =
    cut_makes_none (public_of c.args.case.now) c.args.measure c.in_ok-levels.levels c.args.cell.now c.args.blocks.now (ap is_some (sym (c.in_ok-cutting_pair.ensures c.args.case.now.policy.now) ∙ c.in-Some.is))
    ∙ ap (λ (levels : List ℕ). are_blocks (public_of c.args.case.now) c.args.measure levels c.args.cell.now c.args.blocks.now) c.in_ok-levels.ensures.levels

pub returns : goal.returns
returns c =
    c.are_same.ensures
    ∙ ap (λ (ts : List Cell). same_cells ts c.args.blocks.now) (c.as_slice.ensures ∙ c.in_ok-own-in-None.ensures ∙ blocks_bare c.args.case.now.core.now c.args.case.now.policy.now c.in_ok-levels.levels c.args.cell.now)
    ∙ uncut_makes (public_of c.args.case.now) c.args.measure c.in_ok-levels.levels c.args.cell.now c.args.blocks.now (sym c.is_protected.ensures.protected ∙ c.if-not-is_protected.false) (ap is_some (sym (c.in_ok-cutting_pair.ensures c.args.case.now.policy.now) ∙ c.in-None.is))
    ∙ ap (λ (levels : List ℕ). are_blocks (public_of c.args.case.now) c.args.measure levels c.args.cell.now c.args.blocks.now) c.in_ok-levels.ensures.levels

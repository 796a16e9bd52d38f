use Rattle.std.proofs.Common.{sym, ◌∙◌, subst}
use Rattle.std.proofs.lemmas.Slice.Eq.{bytes_eq-Decides}
use Rattle.cube_model.specs.Cores.{shown}
use Rattle.cube_reason.specs.Showing.{HasLines}
use Rattle.cube_reason.proofs.Only.{same_lines}
use Rattle.cube_reason.proofs.showing.accept_blocks.Goals as goal

pub returns : goal.returns
returns c =
    let core = c.args.case.now.core.now in
    let g = shown core c.args.case.now.policy.now in
    let same = bytes_eq-Decides c.as_slice.result.now c.args.lines.now in (
      λ e. subst (HasLines core.dims g c.args.case.now.history.now c.args.case.now.request.now c.args.verdict.now) (sym c.as_slice.ensures ∙ same.0 (sym c.eq.ensures ∙ e)) c.in_ok-own.ensures,
      λ w. c.eq.ensures ∙ same.1 (c.as_slice.ensures ∙ same_lines core.dims g c.args.case.now.history.now c.args.case.now.request.now c.args.verdict.now c.in_ok-own.own c.args.lines.now c.requires.source c.in_ok-own.ensures w),
    )

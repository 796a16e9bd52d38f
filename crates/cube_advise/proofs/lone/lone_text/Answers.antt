use Rattle.std.proofs.Common.{◌++◌, ◌∙◌, ℕ, List, ap, sym}
use Rattle.cube_model.specs.Cores.{shown}
use Rattle.cube_advise.specs.Lone.{lone_lines}
use Rattle.cube_advise.proofs.Listing.{lines_more}
use Rattle.cube_advise.proofs.lone.lone_text.Goals as goal

pub measures-preserved : goal.measures-preserved
measures-preserved c =
    let lines = lone_lines c.args.core.now.dims (shown c.args.core.now c.args.policy.now) in
    c.in_ok-push_measure.ensures ∙ ap (λ (t : List ℕ). t ++ lines c.measures.measure) c.measures.invariant ∙ sym (lines_more lines c.measures.measure)

use Rattle.std.proofs.Common.{◌∷◌, ◌++◌, [], ℕ, List, sym, ap, ◌∙◌}
use Rattle.cube_source.specs.Counts.{has_source}
use Rattle.cube_source.proofs.Growing.{number_passed, number_failed}
use Rattle.cube_source.proofs.counting.source_measures.Goals as goal
use Rattle.cube_source.proofs.counting.source_measures.Goals.{then-is_source+in_ok-push, else-is_source}

pub each-preserved : goal.each-preserved
each-preserved c = elim c.if-is_source.branch [
  | then-is_source+in_ok-push w ↦ ap (λ v. v.items) w.measures-is ∙ w.in_ok-push.ensures.items ∙ ap (λ (ms : List ℕ). ms ++ c.each.measure ∷ []) c.each.invariant ∙ sym (number_passed (has_source c.args.policy.now) c.each.measure (sym c.is_source.ensures ∙ w.if-is_source.true))
  | else-is_source w ↦ ap (λ v. v.items) w.measures-is ∙ c.each.invariant ∙ sym (number_failed (has_source c.args.policy.now) c.each.measure (sym c.is_source.ensures ∙ w.if-is_source.false))
]

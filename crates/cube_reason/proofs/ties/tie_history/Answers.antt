use Rattle.std.proofs.Common.{sym, ◌∙◌}
use Rattle.cube_model.specs.Cores.{shown}
use Rattle.cube_reason.proofs.Numbers.{entry_tied, entry_passed}
use Rattle.cube_reason.proofs.ties.tie_history.Goals as goal
use Rattle.cube_reason.proofs.ties.tie_history.Goals.{then-is_on+in_ok-links+in_ok-tie_all, else-is_on}

pub entries-preserved : goal.entries-preserved
entries-preserved c = elim c.if-is_on.branch [
  | then-is_on+in_ok-links+in_ok-tie_all w ↦ rw w.ties-is (entry_tied (shown c.args.case.now.core.now c.args.case.now.policy.now) c.args.case.now.history.now c.args.measure c.entries.index c.entry-item.result w.as_slice.result.now c.entries.ties.items w.tie_all.new.ties.items
      c.entries-test.true c.entry-item.is (sym c.is_on.ensures ∙ w.if-is_on.true) (w.as_slice.ensures ∙ w.in_ok-links.ensures) w.in_ok-tie_all.ensures c.entries.invariant)
  | else-is_on w ↦ rw w.ties-is (entry_passed (shown c.args.case.now.core.now c.args.case.now.policy.now) c.args.case.now.history.now c.args.measure c.entries.index c.entry-item.result c.entries.ties.items
      c.entries-test.true c.entry-item.is (sym c.is_on.ensures ∙ w.if-is_on.false) c.entries.invariant)
]

use Rattle.std.proofs.Common.{sym, ◌∙◌, subst}
use Rattle.cube_model.specs.Dims.{plains}
use Rattle.cube_reason.specs.Given.{HasLevels}
use Rattle.cube_reason.proofs.Narrowed.{source_start, source_more, source_same}
use Rattle.cube_reason.proofs.narrowing.source_of.Goals as goal
use Rattle.cube_reason.proofs.narrowing.source_of.Goals.{then-is_on+in_ok-source, else-is_on}

pub entries-init : goal.entries-init
entries-init c = record { source = sym (source_start c.args.measure); levels = tt }

pub entries-preserved : goal.entries-preserved
entries-preserved c = elim c.if-is_on.branch [
  | then-is_on+in_ok-source w ↦ record {
    source = w.source-is ∙ source_more c.args.case.now.history.now c.args.measure c.entries.entry-index c.entry-item.result c.entries.source w.in_ok-source.source c.entries-test.true c.entry-item.is (sym c.is_on.ensures ∙ w.if-is_on.true) c.entries.invariant.source w.in_ok-source.ensures.narrowed;
    levels = subst (HasLevels (plains c.args.case.now.core.now.dims)) (sym w.source-is) w.in_ok-source.ensures.levels;
  }
  | else-is_on w ↦ record {
    source = w.source-is ∙ source_same c.args.case.now.history.now c.args.measure c.entries.entry-index c.entry-item.result c.entries.source c.entries-test.true c.entry-item.is (sym c.is_on.ensures ∙ w.if-is_on.false) c.entries.invariant.source;
    levels = subst (HasLevels (plains c.args.case.now.core.now.dims)) (sym w.source-is) c.entries.invariant.levels;
  }
]

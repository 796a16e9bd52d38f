use Rattle.std.proofs.Common.{inr, arith}
use Rattle.cube_journal.specs.Lines.{ended_lines}
use Rattle.cube_journal.proofs.Entries.{reads_start, reads_more, reads_end, reads_fail}
use Rattle.cube_journal.proofs.history.read_lines.Goals as goal

pub lines-init : goal.lines-init
lines-init c = record { reads = reads_start _ _ _ _ (ended_lines c.args.bytes.now) _ _ c.new-history.ensures c.is_second-holds.ensures; few = omega arith }

pub returns-in_default-2 : goal.returns-in_default-2
returns-in_default-2 c = inr (reads_fail _ _ _ _ _ (ended_lines c.in-Some.more.now) c.in-Some.text.now c.lines.history c.lines.line c.lines.holds (rw c.in-Some.ensures.some at c.lines.invariant.reads) (rw c.in_default-2.is at c.in_ok-entry.ensures.sound))

pub overflow_add-line : goal.overflow_add-line
overflow_add-line c = omega (arith, c.lines.invariant.few, c.requires)

pub lines-preserved : goal.lines-preserved
lines-preserved c = record {
  reads = rw (c.in_ok-push.ensures.ok, c.still_holds-holds.ensures) (reads_more _ _ _ _ _ (ended_lines c.in-Some.more.now) c.in-Some.text.now c.lines.history c.in-Some-2.entry c.lines.line c.lines.holds (rw c.in-Some.ensures.some at c.lines.invariant.reads) (rw c.in-Some-2.is at c.in_ok-entry.ensures.some) (rw c.in-Some-2.is at c.in_ok-entry.ensures.sound));
  few = omega (arith, c.lines.invariant.few, c.in-Some.ensures.shorter);
}

pub returns : goal.returns
returns c = reads_end _ _ _ _ _ (ended_lines c.lines.rest.now) c.lines.history c.lines.line c.lines.holds c.lines.invariant.reads c.in_default.ensures.none

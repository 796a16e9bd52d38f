use Rattle.std.proofs.Common.{sym, ◌∙◌, ap}
use Rattle.cube_http.specs.Stream.{ends_head}
use Rattle.cube_http.proofs.Requests.{full_says, judged_bad, judged_good}
use Rattle.cube_http.proofs.connection.judge_kept.Goals as goal

pub returns-then-not-ends_head-clause-judged : goal.returns-then-not-ends_head-clause-judged
returns-then-not-ends_head-clause-judged c = full_says c.args.kept.now.head.items c.requires.stops (sym (c.ends_head.ensures ∙ ap ends_head c.deref.ensures.value) ∙ c.if-not-ends_head.true)

pub returns-in-Err-clause-judged : goal.returns-in-Err-clause-judged
returns-in-Err-clause-judged c =
    judged_bad c.args.kept.now.head.items c.in-Err.fixed c.requires.stops (sym (c.ends_head.ensures ∙ ap ends_head c.deref.ensures.value) ∙ c.if-not-ends_head.false) (rw c.deref-2.ensures.value at c.in-Err.ensures)

pub returns-in-Ok-clause-judged : goal.returns-in-Ok-clause-judged
returns-in-Ok-clause-judged c =
    judged_good c.args.kept.now.head.items c.in-Ok.facts c.requires.stops (sym (c.ends_head.ensures ∙ ap ends_head c.deref.ensures.value) ∙ c.if-not-ends_head.false) (rw c.deref-2.ensures.value at c.in-Ok.ensures)

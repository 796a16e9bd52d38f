use Rattle.std.proofs.Common.{◌≡◌, ◌∙◌, ℕ, Bool, List, inl, subst}
use Rattle.cube_io.specs.Seen.{seen}
use Rattle.cube_commands.specs.Saying.{PutsWhether}
use Rattle.cube_commands.proofs.Whether.{IsTurned, caused_with, printed_with, statuses_with}
use Rattle.cube_commands.proofs.saying.put_whether.Goals as goal

pub returns-in-Ok-clause-puts : goal.returns-in-Ok-clause-puts
returns-in-Ok-clause-puts g c = λ text so is.
    let here = rw c.in-Ok.is at is in
    let x = c.say_whether.ensures in
    let out = seen g.O.Sink.state c.args.out.now c.print.new.out in
    let turned : IsTurned c.in-Ok.line.1 c.print.result c.say_whether.result = record { done = x.done; other = x.other; text = x.text; outcomes = x.outcomes } in
    subst (λ (said : List ℕ). PutsWhether so said out c.say_whether.result) (c.as_slice.ensures ∙ here.0)
    (subst (λ (b : Bool). PutsWhether b c.as_slice.result.now out c.say_whether.result) here.1
    (inl (printed_with c.in-Ok.line.1 c.as_slice.result.now out c.print.result c.say_whether.result turned c.print.ensures.prints)))

pub returns-in-Ok-clause-causes : goal.returns-in-Ok-clause-causes
returns-in-Ok-clause-causes g c =
    let x = c.say_whether.ensures in
    caused_with c.in-Ok.line.1 c.print.result c.say_whether.result (record { done = x.done; other = x.other; text = x.text; outcomes = x.outcomes }) c.print.ensures.causes

pub returns-in-Ok-clause-status : goal.returns-in-Ok-clause-status
returns-in-Ok-clause-status g c =
    let x = c.say_whether.ensures in
    statuses_with c.in-Ok.line.1 c.print.result c.say_whether.result (record { done = x.done; other = x.other; text = x.text; outcomes = x.outcomes }) c.print.ensures.status

use Rattle.std.specs.Option.{IfSome}
use Rattle.std.proofs.Common.{◌≡◌, List, Option, map, subst}
use Rattle.cube_model.specs.declared.answer.AnswerRow.{AnswerRow}
use Rattle.cube_model.specs.declared.policy.Policy.{Policy}
use Rattle.cube_model.specs.Cores.{shown}
use Rattle.cube_model.specs.Requests.{rows}
use Rattle.cube_answers.specs.Sums.{row_sum}
use Rattle.cube_answers.proofs.Keys.{sums_fit}
use Rattle.cube_answers.proofs.sums.answer.Goals as goal

pub returns-in-Some-clause-written : goal.returns-in-Some-clause-written
returns-in-Some-clause-written g c = sums_fit c.args.core.now c.args.request.now c.in-Some.answer c.dims-rules.ensures.rules c.requires.fits c.requires.measure
    (subst (λ (o : Option (List AnswerRow)). IfSome o (λ answer. (p : Policy) → answer ≡ map (row_sum c.args.core.now c.args.request.now.what) (rows (shown c.args.core.now p) c.args.request.now))) c.in-Some.is c.in_ok-found.ensures)

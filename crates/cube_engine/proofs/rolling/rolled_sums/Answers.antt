use Rattle.std.proofs.Common.{rules}
use Rattle.cube_answers.specs.AnswerText.{IsAnswer}
use Rattle.cube_engine.proofs.Cuboids.{rolled_fits}
use Rattle.cube_engine.proofs.Named.{ok_map}
use Rattle.cube_engine.proofs.rolling.rolled_sums.Goals as goal

pub returns-clause-written : goal.returns-clause-written
returns-clause-written g c =
    let core = c.args.core.now in
    let r = c.args.request.now in
    ok_map _ (IsAnswer core.dims r) c.answer.result (λ answer is. rolled_fits core r answer c.dims-rules.ensures.rules c.requires.request (λ p. is core p (search rules) c.requires.serves.stands)) c.answer.ensures.answer

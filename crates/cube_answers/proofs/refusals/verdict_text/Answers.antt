use Rattle.std.proofs.lemmas.Result.{IfOk-weaker}
use Rattle.cube_model.specs.Cubes.{key_at}
use Rattle.cube_answers.proofs.refusals.verdict_text.Goals as goal

-- no cell of a place looks at the policy
pub returns-in-Pair : goal.returns-in-Pair
unfolding key_at
returns-in-Pair c = rw c.in-Pair.is (IfOk-weaker c.pair_text.result _ _ (λ text made p. made) c.pair_text.ensures)

pub returns-in-Single : goal.returns-in-Single
unfolding key_at
returns-in-Single c = rw c.in-Single.is (IfOk-weaker c.single_text.result _ _ (λ text made p. made) c.single_text.ensures)

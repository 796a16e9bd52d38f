use Rattle.std.proofs.Common.{ℕ, ◌<◌, sym, subst}
use Rattle.cube_answers.specs.AnswerText.{IsThere}
use Rattle.cube_answers.proofs.Valid.{valid_measure}
use Rattle.cube_engine.proofs.rolling.answer_request.Goals as goal

pub cuboid_for-requires : goal.cuboid_for-requires
cuboid_for-requires g c m e =
    subst (λ (n : ℕ). m < n) (sym c.requires.long) (subst (IsThere c.args.core.now.dims) e (valid_measure c.args.core.now.dims c.args.request.now c.requires.request))

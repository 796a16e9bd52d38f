use Rattle.std.specs.Option.{IfSome, option_copied}
use Rattle.std.proofs.Common.{◌≡◌, sym, ap, subst}
use Rattle.cube_model.specs.declared.policy.Policy.{Policy}
use Rattle.cube_model.specs.Cores.{Core, world}
use Rattle.cube_model.specs.Requests.{answer as answer_of}
use Rattle.cube_answers.specs.AnswerText.{IsAnswer}
use Rattle.cube_rollup.specs.Cuboids.{IsCuboidOf}
use Rattle.cube_engine.proofs.Cuboids.{rolled_fits}
use Rattle.cube_engine.proofs.rolling.rolled_text.Goals as goal

pub answer_text-requires : goal.answer_text-requires
answer_text-requires g c =
    let core = c.args.core.now in
    let r = c.args.request.now in
    let given = subst (λ o. IfSome o (λ answer. (d : Core) (p : Policy) → IsCuboidOf d c.args.cuboid.now → answer ≡ answer_of (world d p) c.args.request.now)) (ap option_copied c.in-Some.is) c.kept_answer.ensures.answer in
    subst (λ s. IsAnswer s r c.in-Some.cells.now) (sym c.dims.ensures.dims) (rolled_fits core r c.in-Some.cells.now c.dims-rules.ensures.rules c.requires.request (λ p. given core p c.requires.serves.stands))

use Rattle.std.proofs.Common.{◌≡◌, refl, false, ap, sym, ◌∙◌, subst}
use Rattle.cube_model.specs.declared.reply.Kind.TheVariants.{Plain}
use Rattle.cube_model.specs.declared.reply.Reply.TheVariants.{Made}
use Rattle.cube_model.specs.declared.verdict.Verdict.{Verdict}
use Rattle.cube_model.specs.Cores.{Core, shown, world}
use Rattle.cube_model.specs.Runs.{told, entered}
use Rattle.cube_answers.specs.VerdictText.{verdict_text}
use Rattle.cube_engine.specs.Books.{Holding, is_answer}
use Rattle.cube_engine.specs.Steps.{in_words}
use Rattle.cube_engine.proofs.Named.{refused_words}
use Rattle.cube_engine.proofs.Preparing.{judged_named, refused_stays, refused_waits}
use Rattle.cube_engine.proofs.holding.Holding.prepare_request.Goals as goal

pub refuse-requires : goal.refuse-requires
refuse-requires g c =
    let rules = c.core.ensures in
    judged_named c.args.self.now c.judge.new.self c.args.request.now c.in_ok-verdict.verdict c.core.result.now c.judge.ensures.same rules.core rules.rules rules.policy rules.admissible c.requires.request c.in_ok-verdict.ensures.verdict

pub returns-then-not-answers-clause-comes : goal.returns-then-not-answers-clause-comes
returns-then-not-answers-clause-comes g c =
    let b = c.args.self.now in
    let w = world b.core b.policy in
    let r = c.args.request.now in
    let v = c.in_ok-verdict.verdict in
    let told_is = c.in_ok-verdict.ensures.verdict in
    let refused : is_answer v ≡ false = sym c.if-not-answers.ensures in
    let core_is : c.core.result.now ≡ b.core = c.core.ensures.core ∙ ap (λ (n : Holding). n.core) c.judge.ensures.same in
    let reply_is = subst (λ (d : Core). c.in_ok-reply.reply ≡ Made 403 Plain (verdict_text d.dims (shown d b.policy) v)) core_is (c.in_ok-reply.ensures b.policy) in (
      refl,
      reply_is ∙ sym (refused_words b.core.dims w r v refused) ∙ ap (λ (x : Verdict). in_words b.core.dims (shown b.core b.policy) r (told w r x)) told_is,
      ap (entered b.history r) (sym told_is) ∙ refused_stays b.history r v refused,
      c.in_ok-verdict.ensures.waits ∙ refused_waits r v refused,
    )

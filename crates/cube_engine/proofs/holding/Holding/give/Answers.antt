use Rattle.std.specs.Prelude.{IfSome}
use Rattle.std.proofs.Common.{◌≡◌, ℕ, ◌<◌, sym, subst, is_some, true}
use Rattle.cube_model.specs.Cores.{Core, shown}
use Rattle.cube_model.specs.Verdicts.{verdict}
use Rattle.cube_model.specs.declared.verdict.Verdict.TheVariants.{Answer}
use Rattle.cube_admit.specs.States.{waiting, waits_for}
use Rattle.cube_admit.proofs.Standing.{admissible_history}
use Rattle.cube_answers.specs.AnswerText.{IsThere}
use Rattle.cube_answers.proofs.Valid.{valid_measure}
use Rattle.cube_query.specs.Canonical.{is_request}
use Rattle.cube_engine.specs.Books.{Holding}
use Rattle.cube_engine.specs.Reads.{ReadsFew, IsFineEnough, cuboid_of}
use Rattle.cube_engine.proofs.Cuboids.{serves, reads_few}
use Rattle.cube_engine.proofs.Named.{valid_under}
use Rattle.cube_engine.proofs.holding.Holding.give.Goals as goal

pub answer_request-requires-clause-serves : goal.answer_request-requires-clause-serves
answer_request-requires-clause-serves g c =
    let x = c.self.inside in
    let r = c.args.request.now in
    let asked = subst (λ (b : Holding). is_request b.core.dims r ≡ true) (sym c.self.view_is) c.requires.request in
    let answered = subst (λ (b : Holding). verdict (shown b.core b.policy) b.history r ≡ Answer (is_some b.waiting)) (sym c.self.view_is) c.requires.answered in
    let waits = subst (λ (b : Holding). b.waiting ≡ waits_for (Answer (is_some b.waiting)) r) (sym c.self.view_is) c.requires.waits in
    subst (λ (k : Core). IfSome (cuboid_of x.rollups r.what) (IsFineEnough k r)) (sym c.get.ensures) (
    serves x.core x.policy x.state.history r (is_some (waiting x.state)) (waiting x.state) x.rollups (valid_under x.core x.policy r c.self.invariant.0 asked) (admissible_history (shown x.core x.policy) x.state c.self.invariant.1)
    (λ m e. subst (λ (n : ℕ). m < n) (sym c.self.invariant.0.methods) (subst (IsThere x.core.dims) e (valid_measure x.core.dims r asked)))
    answered waits c.self.invariant.2)

pub returns-in_err-body-clause-few : goal.returns-in_err-body-clause-few
returns-in_err-body-clause-few g c =
    let x = c.self.inside in
    let r = c.args.request.now in
    let asked = subst (λ (b : Holding). is_request b.core.dims r ≡ true) (sym c.self.view_is) c.requires.request in
    let answered = subst (λ (b : Holding). verdict (shown b.core b.policy) b.history r ≡ Answer (is_some b.waiting)) (sym c.self.view_is) c.requires.answered in
    let waits = subst (λ (b : Holding). b.waiting ≡ waits_for (Answer (is_some b.waiting)) r) (sym c.self.view_is) c.requires.waits in
    subst (λ (b : Holding). ReadsFew (shown b.core b.policy) b.history r c.args.steps.now c.answer_request.new.steps) c.self.view_is
    (reads_few x.core x.policy x.state.history r (is_some (waiting x.state)) (waiting x.state) x.rollups c.args.steps.now c.answer_request.new.steps (valid_under x.core x.policy r c.self.invariant.0 asked) (admissible_history (shown x.core x.policy) x.state c.self.invariant.1)
    (λ m e. subst (λ (n : ℕ). m < n) (sym c.self.invariant.0.methods) (subst (IsThere x.core.dims) e (valid_measure x.core.dims r asked)))
    answered waits c.self.invariant.2 c.answer_request.ensures.steps)

pub returns-then-not-pending-clause-few : goal.returns-then-not-pending-clause-few
returns-then-not-pending-clause-few g c =
    let x = c.self.inside in
    let r = c.args.request.now in
    let asked = subst (λ (b : Holding). is_request b.core.dims r ≡ true) (sym c.self.view_is) c.requires.request in
    let answered = subst (λ (b : Holding). verdict (shown b.core b.policy) b.history r ≡ Answer (is_some b.waiting)) (sym c.self.view_is) c.requires.answered in
    let waits = subst (λ (b : Holding). b.waiting ≡ waits_for (Answer (is_some b.waiting)) r) (sym c.self.view_is) c.requires.waits in
    subst (λ (b : Holding). ReadsFew (shown b.core b.policy) b.history r c.args.steps.now c.answer_request.new.steps) c.self.view_is
    (reads_few x.core x.policy x.state.history r (is_some (waiting x.state)) (waiting x.state) x.rollups c.args.steps.now c.answer_request.new.steps (valid_under x.core x.policy r c.self.invariant.0 asked) (admissible_history (shown x.core x.policy) x.state c.self.invariant.1)
    (λ m e. subst (λ (n : ℕ). m < n) (sym c.self.invariant.0.methods) (subst (IsThere x.core.dims) e (valid_measure x.core.dims r asked)))
    answered waits c.self.invariant.2 c.answer_request.ensures.steps)

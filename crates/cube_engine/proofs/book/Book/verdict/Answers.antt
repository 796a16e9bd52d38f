use Rattle.std.proofs.Common.{◌≡◌, true, sym, ap, subst}
use Rattle.std.proofs.lemmas.Result.{IfOk-weaker}
use Rattle.cube_model.specs.declared.verdict.Verdict.{Verdict}
use Rattle.cube_model.specs.Cores.{Core, shown}
use Rattle.cube_model.specs.Verdicts.{verdict}
use Rattle.cube_answers.specs.VerdictText.{IsVerdict}
use Rattle.cube_query.specs.Canonical.{is_request}
use Rattle.cube_engine.specs.Books.{Book}
use Rattle.cube_engine.proofs.Named.{valid_under, verdict_named}
use Rattle.cube_engine.proofs.book.Book.verdict.Goals as goal

pub returns-clause-there : goal.returns-clause-there
returns-clause-there c =
    let x = c.self.inside.holding in
    let r = c.args.request.now in
    let rules = c.core-rules.ensures in
    let core_is : x.core ≡ c.args.self.now.core = ap (λ (b : Book). b.core) c.self.view_is in
    let asked : is_request x.core.dims r ≡ true = subst (λ (k : Core). is_request k.dims r ≡ true) (sym core_is) c.requires.request in
    IfOk-weaker c.verdict.result
    (λ (v : Verdict). v ≡ verdict (shown x.core x.policy) x.history r)
    (λ (v : Verdict). IsVerdict c.args.self.now.core v)
    (λ v is. subst (λ (k : Core). IsVerdict k v) core_is (subst (IsVerdict x.core) (sym is) (verdict_named x.core x.policy x.history r rules.rules rules.policy (valid_under x.core x.policy r rules.policy asked) rules.admissible))) c.verdict.ensures.verdict

use Rattle.std.proofs.Common.{◌≡◌, ◌∙◌, true, sym, ap, subst}
use Rattle.cube_model.specs.declared.policy.Policy.{Policy}
use Rattle.cube_model.specs.Cores.{Core}
use Rattle.cube_model.specs.Policies.{IsPolicy}
use Rattle.cube_query.specs.Canonical.{is_request}
use Rattle.cube_engine.specs.Books.{Book}
use Rattle.cube_engine.proofs.Named.{valid_under}
use Rattle.cube_commands.proofs.reasons.is_reason.Goals as goal

pub accept_text-requires-clause-valid : goal.accept_text-requires-clause-valid
accept_text-requires-clause-valid c =
    let core = c.core-core.result.now in
    let core_is : core ≡ c.args.book.now.core = c.core-core.ensures.core ∙ ap (λ (b : Book). b.core) c.in_ok-verdict.ensures.same in
    let asked : is_request core.dims c.args.request.now ≡ true = subst (λ (k : Core). is_request k.dims c.args.request.now ≡ true) (sym core_is) c.requires.request in
    let ruled : IsPolicy core.dims c.verdict.new.self.policy = subst (λ (k : Core). IsPolicy k.dims c.verdict.new.self.policy) (sym c.core-core.ensures.core) c.core-core.ensures.rules.policy in
    let policy : IsPolicy core.dims c.policy-policy.result.now = subst (λ (p : Policy). IsPolicy core.dims p) (sym c.policy-policy.ensures.policy) ruled in
    valid_under core c.policy-policy.result.now c.args.request.now policy asked

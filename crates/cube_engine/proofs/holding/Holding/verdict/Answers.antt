use Rattle.std.proofs.Common.{◌≡◌, sym, subst, true}
use Rattle.cube_model.specs.Cores.{Core, shown}
use Rattle.cube_model.specs.Requests.{is_valid}
use Rattle.cube_query.specs.Canonical.{is_request}
use Rattle.cube_engine.specs.Books.{Holding}
use Rattle.cube_engine.proofs.Named.{valid_under}
use Rattle.cube_engine.proofs.holding.Holding.verdict.Goals as goal

pub verdict-verdict-requires-clause-valid : goal.verdict-verdict-requires-clause-valid
verdict-verdict-requires-clause-valid c =
    let x = c.self.inside in
    let asked = subst (λ (b : Holding). is_request b.core.dims c.args.request.now ≡ true) (sym c.self.view_is) c.requires.request in
    subst (λ (k : Core). is_valid (shown k x.policy) c.args.request.now ≡ true) (sym c.get.ensures) (valid_under x.core x.policy c.args.request.now c.self.invariant.0 asked)

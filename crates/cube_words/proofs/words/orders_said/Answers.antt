use Rattle.std.proofs.Common.{◌≡◌, ◌∙◌, sym, subst}
use Rattle.std.specs.Prelude.{IfOk}
use Rattle.cube_words.specs.Words.{with_rules}
use Rattle.cube_words.specs.declared.words.Command.{Command}
use Rattle.cube_words.proofs.words.orders_said.Goals as goal

pub returns-clause-orders : goal.returns-clause-orders
returns-clause-orders c =
    let draft = sym c.is_draft.ensures ∙ c.if-is_draft.false in
    rw draft (subst (λ (x : Command). IfOk c.orders_as.result (λ given. given ≡ with_rules c.args.words.now x)) c.with_groups.ensures c.orders_as.ensures.orders)

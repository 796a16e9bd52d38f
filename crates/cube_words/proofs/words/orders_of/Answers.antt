use Rattle.std.proofs.Common.{List, ℕ, Some, ◌≡◌, ◌∙◌, sym, subst}
use Rattle.std.specs.Prelude.{IfOk, Result}
use Rattle.cube_words.specs.Words.{command_of}
use Rattle.cube_words.specs.declared.ordered.Orders.{Orders}
use Rattle.cube_words.specs.declared.words.Usage.{Usage}
use Rattle.cube_words.proofs.Commands.{ordered_by}
use Rattle.cube_words.proofs.words.orders_of.Goals as goal

pub returns-in-Some-clause-orders : goal.returns-in-Some-clause-orders
returns-in-Some-clause-orders c =
    let words = c.args.words.now in
    let known = subst (λ (w : List ℕ). command_of w ≡ Some c.in-Some.command) c.as_slice.ensures (sym c.command_of.ensures ∙ c.in-Some.is) in
    let same = ordered_by words c.word-item.result c.in-Some.command c.in-len1-up.len_at_least c.word-item.is known in
    subst (λ (x : Result Orders Usage). IfOk c.orders_behind.result (λ given. given ≡ x)) same c.orders_behind.ensures.orders

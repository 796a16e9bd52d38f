use Rattle.std.proofs.Common.{sym, ap, ◌∙◌, not}
use Rattle.cube_model.specs.Cores.{world}
use Rattle.cube_audit.specs.Audits.{asked_by}
use Rattle.cube_audit.specs.Examining.{examined_as}
use Rattle.cube_audit.specs.declared.exact.Examined.TheVariants.{Exact}
use Rattle.cube_audit.proofs.Examining.{asked_more, next_item, inexact_item, all_items, asked_all}
use Rattle.cube_audit.proofs.exact.examine.Goals as goal

pub returns-then-not-sound : goal.returns-then-not-sound
returns-then-not-sound g c p =
    let s = c.args.core.now.dims in
    let items = c.args.items.now in
    let found = sym (c.items.invariant.exact p) ∙ inexact_item s items c.items.number c.index-items-number.result c.items-test.true c.index-items-number.is (world c.args.core.now p) (c.in_ok-sound.ensures.sound p ∙ ap not c.if-not-sound.true) in
    sym (ap (λ o. examined_as o (asked_by s items)) found)

pub items-preserved : goal.items-preserved
items-preserved g c =
    let s = c.args.core.now.dims in
    let items = c.args.items.now in
    record {
      exact = λ p. next_item s items c.items.number c.index-items-number.result c.items-test.true c.index-items-number.is (world c.args.core.now p) (c.in_ok-sound.ensures.sound p ∙ ap not c.if-not-sound.false) ∙ c.items.invariant.exact p;
      asked = asked_more s items c.items.number c.index-items-number.result c.items-test.true c.index-items-number.is c.items.requests c.add_item.new.requests c.items.invariant.asked (c.in_ok-sound.ensures.added c.if-not-sound.false);
    }

pub returns : goal.returns
returns g c p =
    let s = c.args.core.now.dims in
    let items = c.args.items.now in
    let none = sym (c.items.invariant.exact p) ∙ all_items s (world c.args.core.now p) items c.items.number c.items-test.false in
    ap Exact (c.items.invariant.asked ∙ asked_all s items c.items.number c.items-test.false) ∙ sym (ap (λ o. examined_as o (asked_by s items)) none)

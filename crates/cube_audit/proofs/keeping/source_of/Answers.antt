use Rattle.std.proofs.Common.{refl, sym, ap, ◌∙◌}
use Rattle.cube_model.specs.Verdicts.{source}
use Rattle.cube_audit.specs.Keeping.{public_of}
use Rattle.cube_audit.proofs.Kept.{source_next, source_same, long_so_far, at_end}
use Rattle.cube_audit.proofs.keeping.source_of.Goals as goal
use Rattle.cube_audit.proofs.keeping.source_of.Goals.{then-asks_for+in_ok-grain, else-asks_for}

pub requests-init : goal.requests-init
unfolding source
requests-init c = refl

pub narrow-requires : goal.narrow-requires
narrow-requires c =
    rw (c.as_ref.ensures.value, c.requests.invariant, c.in_ok-grain.ensures)
    (long_so_far c.args.asked.now.requests.now c.requests.request-index c.request-item.result c.requests-test.true c.request-item.is (public_of c.args.asked.now) c.args.measure c.requires.requests)

pub requests-preserved : goal.requests-preserved
requests-preserved c =
    elim c.if-asks_for.branch [
      | then-asks_for+in_ok-grain w ↦
          rw (w.source-is, w.narrow.ensures, w.as_ref.ensures.value, c.requests.invariant, w.in_ok-grain.ensures)
          (sym (source_next c.args.asked.now.requests.now c.requests.request-index c.request-item.result c.requests-test.true c.request-item.is c.args.measure (sym c.asks_for.ensures ∙ w.if-asks_for.true)))
      | else-asks_for w ↦
          w.source-is ∙ c.requests.invariant
          ∙ sym (source_same c.args.asked.now.requests.now c.requests.request-index c.request-item.result c.requests-test.true c.request-item.is c.args.measure (sym c.asks_for.ensures ∙ w.if-asks_for.false))
    ]

pub returns : goal.returns
returns c = c.requests.invariant ∙ ap (λ h. source h c.args.measure) (at_end c.args.asked.now.requests.now c.requests.request-index c.requests-test.false)

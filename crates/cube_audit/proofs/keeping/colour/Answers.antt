use Rattle.std.proofs.Common.{◌≡◌, ◌++◌, true, ℕ, sym, ap, ◌∙◌}
use Rattle.cube_model.specs.Links.{basis, links}
use Rattle.cube_model.specs.Requests.{is_valid}
use Rattle.cube_model.specs.Verdicts.{links_of}
use Rattle.cube_model.proofs.Histories.{fits_valid}
use Rattle.cube_colour.specs.Colourings.{Colouring}
use Rattle.cube_audit.specs.Keeping.{public_of}
use Rattle.cube_audit.proofs.Kept.{kept_next, kept_same}
use Rattle.cube_audit.proofs.keeping.colour.Goals as goal
use Rattle.cube_audit.proofs.keeping.colour.Goals.{then-asks_for+in_ok-add_links, else-asks_for}

pub requests-init : goal.requests-init
unfolding links_of
requests-init c = record {
  places = ap (λ (x : Colouring). x.places) c.in_ok-colouring.ensures ∙ c.len.ensures.len;
  guarded = ap (λ (x : Colouring). x.guarded) c.in_ok-colouring.ensures ∙ c.new.ensures;
  kept = ap (λ (x : Colouring). x.kept) c.in_ok-colouring.ensures;
}

pub add_links-requires-clause-fits : goal.add_links-requires-clause-fits
add_links-requires-clause-fits c =
    let r = c.request-item.result in
    let here : is_valid (public_of c.args.asked.now) r ≡ true = ap (is_valid (public_of c.args.asked.now)) c.request-item.is ∙ c.requires.requests c.requests.request-index r c.requests-test.true in
    fits_valid (public_of c.args.asked.now) r here

pub requests-preserved : goal.requests-preserved
requests-preserved c =
    let rs = c.args.asked.now.requests.now in
    let i = c.requests.request-index in
    let r = c.request-item.result in
    let g = public_of c.args.asked.now in
    elim c.if-asks_for.branch [
      | then-asks_for+in_ok-add_links w ↦ record {
        places = ap (λ (x : Colouring). x.places) w.colouring-is ∙ w.add_links.ensures.places ∙ c.requests.invariant.places;
        guarded = ap (λ (x : Colouring). x.guarded) w.colouring-is ∙ w.add_links.ensures.guarded;
        kept = ap (λ (x : Colouring). x.kept) w.colouring-is
            ∙ kept_next rs i r c.requests-test.true c.request-item.is g c.args.measure _ c.requests.colouring.kept _ (sym c.asks_for.ensures ∙ w.if-asks_for.true) c.requests.invariant.kept
            (w.in_ok-add_links.ensures.kept c.args.asked.now.policy.now ∙ ap (λ (n : ℕ). basis n (c.requests.colouring.kept ++ links g r)) c.requests.invariant.places);
      }
      | else-asks_for w ↦ record {
        places = ap (λ (x : Colouring). x.places) w.colouring-is ∙ c.requests.invariant.places;
        guarded = ap (λ (x : Colouring). x.guarded) w.colouring-is ∙ c.requests.invariant.guarded;
        kept = ap (λ (x : Colouring). x.kept) w.colouring-is
            ∙ kept_same rs i r c.requests-test.true c.request-item.is g c.args.measure _ c.requests.colouring.kept (sym c.asks_for.ensures ∙ w.if-asks_for.false) c.requests.invariant.kept;
      }
    ]

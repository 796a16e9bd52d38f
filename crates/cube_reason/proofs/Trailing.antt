-- Steps that are read off backwards.
use Rattle.std.specs.List.{list_any}
use Rattle.std.proofs.Common.{◌≡◌, ℕ, ◌<◌, Bool, true, false, cond, not, ◌&&◌, List, [], ◌∷◌, ◌++◌, length, reverse, refl, sym, ap, ap₂, ◌∙◌, subst, eqb}
use Rattle.std.proofs.lemmas.Bool.{and_from, eq-eqb}
use Rattle.std.proofs.lemmas.List.{reverse-append}
use Rattle.cube_model.specs.declared.link.Link.{Link}
use Rattle.cube_model.specs.Reasons.{Origin, joins, are_steps, led_to, is_odd}
use Rattle.cube_reason.specs.declared.reasons.WalkStep.{WalkStep}
use Rattle.cube_reason.specs.declared.searching.Visit.{Visit}
use Rattle.cube_reason.specs.Searched.{visit_at}
use Rattle.cube_reason.specs.Tied.{bringer_view}
use Rattle.cube_reason.specs.Trails.{AreJoined, LeadsTo}
use Rattle.cube_reason.specs.Views.{origin_view, steps_view}

-- steps from a visit to a later one
pub record Leads (named : Origin → List Link) (visits : List Visit) (at k : ℕ) (steps : List WalkStep) : Type 0 where
  pub steps_are : are_steps named (visit_at visits at).place (steps_view steps) ≡ true
  pub leads : led_to (visit_at visits at).place (steps_view steps) ≡ (visit_at visits k).place
  pub odd : cond (visit_at visits at).odd (not (is_odd (steps_view steps))) (is_odd (steps_view steps)) ≡ (visit_at visits k).odd

pub leads_start : (named : Origin → List Link) (visits : List Visit) (k : ℕ) → Leads named visits k k (reverse [])
leads_start named visits k = record { steps_are = refl; leads = refl; odd = same (visit_at visits k).odd }
  where
    same : (b : Bool) → cond b true false ≡ b
    same true = refl
    same false = refl

pub leads_more : (named : Origin → List Link) (visits : List Visit) (at k : ℕ) (s : WalkStep) (steps more : List WalkStep) → AreJoined named visits → 0 < at → at < length visits → s.from ≡ (visit_at visits (visit_at visits at).back).place → s.to ≡ (visit_at visits at).place → origin_view s.by ≡ bringer_view (visit_at visits at).by
    → more ≡ steps ++ s ∷ [] → Leads named visits at k (reverse steps) → Leads named visits (visit_at visits at).back k (reverse more)
leads_more named visits at k s steps more joined some below from to by is r =
    let back = (visit_at visits (visit_at visits at).back).place in
    let j = joined.joined at some below in
    let turned : reverse more ≡ s ∷ reverse steps = ap reverse is ∙ reverse-append steps (s ∷ []) in
    let pair : list_any (joins s.from s.to) (named (origin_view s.by)) ≡ true = ap₂ (λ x o. list_any (joins x s.to) (named o)) from by ∙ ap (λ y. list_any (joins back y) (named (bringer_view (visit_at visits at).by))) to ∙ j.pair in
    subst (Leads named visits (visit_at visits at).back k) (sym turned) (record {
      steps_are = and_from (eqb s.from back && list_any (joins s.from s.to) (named (origin_view s.by))) (are_steps named s.to (steps_view (reverse steps))) (and_from (eqb s.from back) (list_any (joins s.from s.to) (named (origin_view s.by))) (eq-eqb s.from back from) pair) (subst (λ x. are_steps named x (steps_view (reverse steps)) ≡ true) (sym to) r.steps_are);
      leads = ap (λ x. led_to x (steps_view (reverse steps))) to ∙ r.leads;
      odd = turn (visit_at visits at).odd (visit_at visits (visit_at visits at).back).odd (is_odd (steps_view (reverse steps))) j.odd ∙ r.odd;
    })
  where
    turn : (a b c : Bool) → a ≡ not b → cond b (not (not c)) (not c) ≡ cond a (not c) c
    turn a true c e = ap (λ x. not (not c)) e ∙ twice c ∙ sym (ap (λ x. cond x (not c) c) e)
      where
        twice : (c : Bool) → not (not c) ≡ c
        twice true = refl
        twice false = refl
    turn a false c e = sym (ap (λ x. cond x (not c) c) e)

pub leads_end : (named : Origin → List Link) (visits : List Visit) (at k : ℕ) (steps : List WalkStep) → AreJoined named visits → at ≡ 0 → Leads named visits at k steps → LeadsTo named visits k steps
leads_end named visits at k steps joined e r =
    let z : Leads named visits 0 k steps = subst (λ n. Leads named visits n k steps) e r in
    record { steps_are = z.steps_are; leads = z.leads; odd = sym (ap (λ b. cond b (not (is_odd (steps_view steps))) (is_odd (steps_view steps))) joined.even) ∙ z.odd }

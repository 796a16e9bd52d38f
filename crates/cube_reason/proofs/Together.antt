-- A walk that is found is a walk.
use Rattle.std.specs.List.{list_any}
use Rattle.std.proofs.Common.{◌≡◌, ℕ, zero, suc, ◌<◌, ◌≤◌, ◌⊎◌, inl, inr, true, ◌&&◌, List, [], length, get_or, Option, Some, None, refl, sym, ap, ◌∙◌, subst, arith, eqb, ⊎_elim}
use Rattle.std.proofs.lemmas.Bool.{false≢true, and_parts, and_from, or_cases, eq-eqb, eqb-true}
use Rattle.cube_model.specs.declared.entry.Entry.{Entry}
use Rattle.cube_model.specs.declared.link.Link.{Link}
use Rattle.cube_model.specs.declared.link.Link.TheVariants.{Pair, Single}
use Rattle.cube_model.specs.declared.request.Request.{Request}
use Rattle.cube_model.specs.Cubes.{Public, IsIn}
use Rattle.cube_model.specs.LinkLaws.{IsOfPlaces}
use Rattle.cube_model.specs.Protection.{listed, guarded}
use Rattle.cube_model.specs.Reasons.{joins, is_at, are_steps, led_to, is_odd, is_end, is_walk, links_by}
use Rattle.cube_model.proofs.Members.{IsIn-flat_map}
use Rattle.cube_model.proofs.Parities.{guarded_below}
use Rattle.cube_model.proofs.Walks.{any_has, listed_from}
use Rattle.cube_reason.specs.Found.{AreSingles, EndsAt, HasWalk, CanWalk, WalksTo}
use Rattle.cube_reason.specs.Searched.{visit_at, AreWithin, HasSearched}
use Rattle.cube_reason.specs.Tied.{tied, bringer_view, led_by, AreTies, OfPlaces, AreJoints}
use Rattle.cube_reason.specs.Views.{origin_view, steps_view, end_view}
use Rattle.cube_reason.specs.declared.joints.Joint.{Joint}
use Rattle.cube_reason.specs.declared.reasons.End.{End}
use Rattle.cube_reason.specs.declared.reasons.WalkStep.{WalkStep}
use Rattle.cube_reason.specs.declared.searching.Visit.{Visit}
use Rattle.cube_reason.specs.declared.ties.Bringer.{Bringer}
use Rattle.cube_reason.specs.declared.ties.Tie.{Tie}
use Rattle.cube_reason.proofs.Reaching.{all_joined, some_last}
use Rattle.cube_reason.proofs.Steps.{led_from, beyond}

places_of : (n a c : ℕ) (l : Link) → joins a c l ≡ true → IsOfPlaces n l → (a < n) × (c < n)
places_of n a c (Single i) e p = absurd (false≢true e)
places_of n a c (Pair i j) e p = ⊎_elim
    (λ z. let q = and_parts (eqb i a) (eqb j c) z in (subst (λ x. x < n) (eqb-true i a q.0) p.0, subst (λ x. x < n) (eqb-true j c q.1) p.1))
    (λ z. let q = and_parts (eqb i c) (eqb j a) z in (subst (λ x. x < n) (eqb-true j a q.1) p.1, subst (λ x. x < n) (eqb-true i c q.0) p.0))
    (or_cases (eqb i a && eqb j c) (eqb i c && eqb j a) e)

-- the tie that a joint comes from
pub record OfTie (ties : List Tie) (a : ℕ) (x : Joint) : Type 0 where
  pub tie : Tie
  pub among : IsIn tie ties
  pub pair : joins a x.to tie.link ≡ true
  pub by : x.by ≡ tie.by

module _ (n : ℕ) (ties : List Tie) (joints : List (List Joint)) (of_ties : OfPlaces n ties) (joint : AreJoints n ties joints) where
  of_tie : (a : ℕ) (x : Joint) → IsIn x (get_or joints a []) → OfTie ties a x
  of_tie a x k = ⊎_elim
      (λ far. absurd (subst (IsIn x) (beyond joints a (let long = joint.long in omega (arith, long, far))) k))
      (λ below.
      let t = IsIn-flat_map (λ (t : Tie). led_by a t.link t.by) x ties (subst (IsIn x) (joint.at a below) k) in
      let p = led_from a t.0.link t.0.by x t.2 in
      record { tie = t.0; among = t.1; pair = p.0; by = p.1 })
      (either a n)
    where
      either : (a n : ℕ) → n ≤ a ⊎ a < n
      either a zero = inl (omega arith)
      either zero (suc n) = inr (omega arith)
      either (suc a) (suc n) = ⊎_elim (λ e. inl (omega (arith, e))) (λ e. inr (omega (arith, e))) (either a n)

  pub joint_tie : (a : ℕ) (x : Joint) → IsIn x (get_or joints a []) → OfTie ties a x
  joint_tie a x k = of_tie a x k

  pub joints_within : AreWithin joints
  joints_within a x k = let t = of_tie a x k in let p = places_of n a x.to t.tie.link t.pair (of_ties t.tie t.among) in let long = joint.long in let b = p.1 in omega (arith, long, b)

module _ (g : Public) (h : List Entry) (r : Request) (m place : ℕ) (ties : List Tie) (joints : List (List Joint)) (visits : List Visit) (singles : List (Option Bringer))
    (are : AreTies (links_by g h r m) ties) (of_ties : OfPlaces (length g.shape.points) ties) (joint : AreJoints (length g.shape.points) ties joints) (alone : AreSingles (length g.shape.points) ties singles) (s : HasSearched joints place visits) where
  visit_below : (k : ℕ) → k < length visits → (visit_at visits k).place < length g.shape.points
  visit_below k l = let a = s.there k l in let long = joint.long in omega (arith, a, long)

  pub can_walk : HasWalk g h r m place → CanWalk visits singles place
  can_walk w = record {
    below = λ k l. let a = visit_below k l in let long = alone.long in omega (arith, a, long);
    back = λ k some l. (s.trail k some l).before;
    some = λ never. (
        let p = and_parts (listed place (guarded g m) && are_steps (links_by g h r m) place w.steps) (is_end (links_by g h r m) place w.steps w.end) w.is in
        let q = and_parts (listed place (guarded g m)) (are_steps (links_by g h r m) place w.steps) p.0 in
        some_last (links_by g h r m) (length g.shape.points) ties joints are of_ties joint place visits s singles w.steps w.end alone q.1 p.1 never);
  }

  pub walks : (steps : List WalkStep) (e : Option End) → HasWalk g h r m place → WalksTo visits singles place steps e → is_walk g h r m place (steps_view steps) (end_view e) ≡ true
  walks steps e w found =
      let p = and_parts (listed place (guarded g m) && are_steps (links_by g h r m) place w.steps) (is_end (links_by g h r m) place w.steps w.end) w.is in
      let q = and_parts (listed place (guarded g m)) (are_steps (links_by g h r m) place w.steps) p.0 in
      let led = found.leads (links_by g h r m) (all_joined (links_by g h r m) (length g.shape.points) ties joints are of_ties joint place visits s) in
      let start : (visit_at visits 0).place ≡ place = ap (λ (v : Visit). v.place) s.first in
      let steps_are : are_steps (links_by g h r m) place (steps_view steps) ≡ true = subst (λ a. are_steps (links_by g h r m) a (steps_view steps) ≡ true) start led.steps_are in
      let leads : led_to place (steps_view steps) ≡ (visit_at visits found.number).place = ap (λ a. led_to a (steps_view steps)) (sym start) ∙ led.leads in
      and_from (listed place (guarded g m) && are_steps (links_by g h r m) place (steps_view steps)) (is_end (links_by g h r m) place (steps_view steps) (end_view e))
      (and_from (listed place (guarded g m)) (are_steps (links_by g h r m) place (steps_view steps)) q.0 steps_are)
      (ending e found.number found.below found.ends leads led.odd)
    where
      ending : (e : Option End) (k : ℕ) → k < length visits → EndsAt place singles (visit_at visits k) e → led_to place (steps_view steps) ≡ (visit_at visits k).place → is_odd (steps_view steps) ≡ (visit_at visits k).odd → is_end (links_by g h r m) place (steps_view steps) (end_view e) ≡ true
      ending None k l x leads odd = and_from (is_odd (steps_view steps)) (eqb (led_to place (steps_view steps)) place) (odd ∙ x.0) (eq-eqb (led_to place (steps_view steps)) place (leads ∙ x.1))
      ending (Some e) k l x leads odd =
          let t : IsIn (tied (Single (visit_at visits k).place) x.bringer) ties = alone.sound (visit_at visits k).place x.bringer (visit_below k l) x.alone in
          let z : IsIn (Single e.place) (links_by g h r m (origin_view e.by)) = subst (λ o. IsIn (Single e.place) (links_by g h r m o)) (sym x.by) (subst (λ a. IsIn (Single a) (links_by g h r m (bringer_view x.bringer))) (sym x.place) (are.sound (tied (Single (visit_at visits k).place) x.bringer) t)) in
          and_from (eqb e.place (led_to place (steps_view steps))) (list_any (is_at e.place) (links_by g h r m (origin_view e.by))) (eq-eqb e.place (led_to place (steps_view steps)) (x.place ∙ sym leads)) (any_has (is_at e.place) (Single e.place) (links_by g h r m (origin_view e.by)) z (eq-eqb e.place e.place refl))

pub walk_start : (g : Public) (h : List Entry) (r : Request) (m place : ℕ) → HasWalk g h r m place → place < length g.shape.points
walk_start g h r m place w =
    let p = and_parts (listed place (guarded g m) && are_steps (links_by g h r m) place w.steps) (is_end (links_by g h r m) place w.steps w.end) w.is in
    let q = and_parts (listed place (guarded g m)) (are_steps (links_by g h r m) place w.steps) p.0 in
    guarded_below g m place (listed_from place (guarded g m) q.0)

-- the ties and joints of a history and a request, as the code holds them
pub record Gathered (g : Public) (h : List Entry) (r : Request) (m : ℕ) (ties : List Tie) (joints : List (List Joint)) : Type 0 where
  pub are : AreTies (links_by g h r m) ties
  pub of_ties : OfPlaces (length g.shape.points) ties
  pub joint : AreJoints (length g.shape.points) ties joints

pub gathered : (g : Public) (h : List Entry) (r : Request) (m n : ℕ) (held all : List Tie) (made pairs : List (List Joint)) → AreTies (links_by g h r m) held → OfPlaces (length g.shape.points) held → n ≡ length g.shape.points → all ≡ held → AreJoints n all made → pairs ≡ made → Gathered g h r m all pairs
gathered g h r m n held all made pairs are of_ties size is joint shown_is = record {
  are = subst (AreTies (links_by g h r m)) (sym is) are;
  of_ties = subst (OfPlaces (length g.shape.points)) (sym is) of_ties;
  joint = subst (λ k. AreJoints k all pairs) size (subst (AreJoints n all) (sym shown_is) joint);
}

pub gathered_start : (g : Public) (h : List Entry) (r : Request) (m place : ℕ) (ties : List Tie) (joints : List (List Joint)) → Gathered g h r m ties joints → HasWalk g h r m place → place < length joints
gathered_start g h r m place ties joints a w = let b = walk_start g h r m place w in let long = a.joint.long in omega (arith, b, long)

pub gathered_within : (g : Public) (h : List Entry) (r : Request) (m : ℕ) (ties : List Tie) (joints : List (List Joint)) → Gathered g h r m ties joints → AreWithin joints
gathered_within g h r m ties joints a = joints_within (length g.shape.points) ties joints a.of_ties a.joint

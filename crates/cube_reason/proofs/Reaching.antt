-- A search finds the walk that there is.
use Rattle.std.specs.List.{list_any}
use Rattle.std.proofs.Common.{◌≡◌, ℕ, ◌<◌, Bool, true, false, not, ◌&&◌, List, [], ◌∷◌, length, get_or, Option, Some, None, is_some, refl, sym, ap, ◌∙◌, subst, eqb}
use Rattle.std.proofs.lemmas.Bool.{false≢true, and_parts, and_from, or_left, or_right, eq-eqb, eqb-true}
use Rattle.cube_model.specs.declared.link.Link.{Link}
use Rattle.cube_model.specs.declared.link.Link.TheVariants.{Pair, Single}
use Rattle.cube_model.specs.Cubes.{IsIn}
use Rattle.cube_model.specs.Reasons as said
use Rattle.cube_model.specs.Reasons.{Origin, joins, is_at, are_steps, led_to, is_odd, is_end, is_walk, links_by}
use Rattle.cube_model.proofs.Walks.{any_from}
use Rattle.cube_reason.specs.Found.{AreSingles, is_last}
use Rattle.cube_reason.specs.Searched.{visit_at, IsReached, HasSearched}
use Rattle.cube_reason.specs.Tied.{tied, bringer_of, AreTies, OfPlaces, AreJoints}
use Rattle.cube_reason.specs.Trails.{AreJoined}
use Rattle.cube_reason.proofs.Steps.{joint_to, joint_named, joint_there}
use Rattle.cube_reason.specs.declared.joints.Joint.{Joint}
use Rattle.cube_reason.specs.declared.searching.Visit.{Visit}
use Rattle.cube_reason.specs.declared.ties.Bringer.{Bringer}
use Rattle.cube_reason.specs.declared.ties.Tie.{Tie}

module _ (named : Origin → List Link) (n : ℕ) (ties : List Tie) (joints : List (List Joint)) (are : AreTies named ties) (of_ties : OfPlaces n ties) (joint : AreJoints n ties joints) (start : ℕ) (visits : List Visit) (s : HasSearched joints start visits) where
  pub all_joined : AreJoined named visits
  all_joined = record {
    even = ap (λ (v : Visit). v.odd) s.first;
    joined = λ k some l. let c = s.trail k some l in record {
      pair = joint_named named n ties joints are of_ties joint (visit_at visits (visit_at visits k).back).place (record { to = (visit_at visits k).place; by = (visit_at visits k).by }) c.joint;
      odd = c.odd;
    };
  }

  turned : Bool → Bool → Bool
  turned true b = not b
  turned false b = b

  -- where steps lead is reached
  follow : (from : ℕ) (odd : Bool) (steps : List said.WalkStep) → IsReached visits from odd → are_steps named from steps ≡ true → IsReached visits (led_to from steps) (turned (is_odd steps) odd)
  unfolding turned
  follow from odd [] r e = r
  follow from odd (x ∷ steps) r e =
      let p = and_parts (eqb x.from from && list_any (joins x.from x.to) (named x.by)) (are_steps named x.to steps) e in
      let q = and_parts (eqb x.from from) (list_any (joins x.from x.to) (named x.by)) p.0 in
      let pair : list_any (joins from x.to) (named x.by) ≡ true = subst (λ a. list_any (joins a x.to) (named x.by) ≡ true) (eqb-true x.from from q.0) q.1 in
      let z : IsIn (joint_to x.to (bringer_of x.by)) (get_or joints (visit_at visits r.number).place []) = subst (λ a. IsIn (joint_to x.to (bringer_of x.by)) (get_or joints a [])) (sym r.place_is) (joint_there named n ties joints are of_ties joint from x.to x.by pair) in
      let next : IsReached visits x.to (not odd) = subst (λ b. IsReached visits x.to (not b)) r.odd_is (s.closed r.number r.below (joint_to x.to (bringer_of x.by)) z) in
      subst (IsReached visits (led_to x.to steps)) (flip (is_odd steps) odd) (follow x.to (not odd) steps next p.1)
    where
      flip : (a b : Bool) → turned a (not b) ≡ turned (not a) b
      flip true true = refl
      flip true false = refl
      flip false b = refl

  started : IsReached visits start false
  started = record { number = 0; below = s.some; place_is = ap (λ (v : Visit). v.place) s.first; odd_is = ap (λ (v : Visit). v.odd) s.first }

  -- a walk that ends passes the test at some visit
  pub some_last : (singles : List (Option Bringer)) (steps : List said.WalkStep) (e : Option said.End) → AreSingles n ties singles → are_steps named start steps ≡ true → is_end named start steps e ≡ true → ((k : ℕ) → k < length visits → is_last start singles (visit_at visits k) ≡ false) → ⊥
  unfolding turned
  some_last singles steps None alone good end never =
      let p = and_parts (is_odd steps) (eqb (led_to start steps) start) end in
      let r = follow start false steps started good in
      let odd : (visit_at visits r.number).odd ≡ true = r.odd_is ∙ ap (λ b. turned b false) p.0 in
      let back : (visit_at visits r.number).place ≡ start = r.place_is ∙ eqb-true (led_to start steps) start p.1 in
      false≢true (sym (never r.number r.below) ∙ or_left ((visit_at visits r.number).odd && eqb (visit_at visits r.number).place start) (is_some (get_or singles (visit_at visits r.number).place None)) (and_from (visit_at visits r.number).odd (eqb (visit_at visits r.number).place start) odd (eq-eqb (visit_at visits r.number).place start back)))
  some_last singles steps (Some e) alone good end never =
      let p = and_parts (eqb e.place (led_to start steps)) (list_any (is_at e.place) (named e.by)) end in
      let r = follow start false steps started good in
      let place : (visit_at visits r.number).place ≡ e.place = r.place_is ∙ sym (eqb-true e.place (led_to start steps) p.0) in
      let l = any_from (is_at e.place) (named e.by) p.1 in
      let t : IsIn (tied (Single e.place) (bringer_of e.by)) ties = subst (λ x. IsIn (tied x (bringer_of e.by)) ties) (alone_is e.place l.0 l.2) (are.complete e.by l.0 l.1) in
      let there : is_some (get_or singles (visit_at visits r.number).place None) ≡ true = subst (λ x. is_some (get_or singles x None) ≡ true) (sym place) (alone.complete e.place (bringer_of e.by) t) in
      false≢true (sym (never r.number r.below) ∙ or_right ((visit_at visits r.number).odd && eqb (visit_at visits r.number).place start) (is_some (get_or singles (visit_at visits r.number).place None)) there)
    where
      alone_is : (a : ℕ) (l : Link) → is_at a l ≡ true → l ≡ Single a
      alone_is a (Pair i j) e = absurd (false≢true e)
      alone_is a (Single i) e = ap Single (eqb-true i a e)

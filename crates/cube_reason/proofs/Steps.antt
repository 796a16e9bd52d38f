-- What joints tell of steps.
use Rattle.std.specs.List.{list_any}
use Rattle.std.proofs.Common.{◌≡◌, ℕ, zero, suc, ◌+◌, ◌<◌, ◌≤◌, ◌⊎◌, inl, inr, Bool, true, false, cond, ◌&&◌, List, [], ◌∷◌, length, drop, get_or, Some, None, refl, sym, ap, ◌∙◌, subst, arith, eqb, ⊎_elim}
use Rattle.std.proofs.lemmas.Bool.{false≢true, and_parts, and_from, or_cases, or_left, or_right, eq-eqb, eqb-true}
use Rattle.std.proofs.lemmas.List.{drop_more, drop_all}
use Rattle.cube_model.specs.declared.link.Link.{Link}
use Rattle.cube_model.specs.declared.link.Link.TheVariants.{Pair, Single}
use Rattle.cube_model.specs.Cubes.{IsIn}
use Rattle.cube_model.specs.Reasons as said
use Rattle.cube_model.specs.Reasons.{are_steps, led_to, joins}
use Rattle.cube_model.specs.Reasons.Origin.{By, Own as OwnLink}
use Rattle.cube_model.proofs.Alike.{both_ways}
use Rattle.cube_model.proofs.Members.{IsIn-append, append_left, append_right, IsIn-flat_map, flat_map_has}
use Rattle.cube_model.proofs.Walks.{any_from, any_has}
use Rattle.cube_reason.specs.Stepped.{is_from, goes_by, TellSteps, led_if}
use Rattle.cube_reason.specs.Tied.{tied, bringer_view, bringer_of, AreTies, OfPlaces, joint_at, led_by, AreJoints}
use Rattle.cube_reason.specs.Views.{origin_view, steps_view}
use Rattle.cube_reason.specs.declared.joints.Joint.{Joint}
use Rattle.cube_reason.specs.declared.reasons.Origin.{Origin}
use Rattle.cube_reason.specs.declared.reasons.Origin.TheVariants as origins
use Rattle.cube_reason.specs.declared.reasons.WalkStep.{WalkStep}
use Rattle.cube_reason.specs.declared.ties.Bringer.{Bringer}
use Rattle.cube_reason.specs.declared.ties.Bringer.TheVariants as bringers
use Rattle.cube_reason.specs.declared.ties.Tie.{Tie}

-- ---- origins

pub from_is : (b : Bringer) (o : Origin) → is_from b o ≡ true → bringer_view b ≡ origin_view o
from_is (bringers.Entry n) (origins.Entry k) e = ap By (eqb-true n k e)
from_is (bringers.Entry n) (origins.Own k) e = absurd (false≢true e)
from_is (bringers.Own n) (origins.Entry k) e = absurd (false≢true e)
from_is (bringers.Own n) (origins.Own k) e = ap OwnLink (eqb-true n k e)

pub is_from_itself : (o : Origin) → is_from (bringer_of (origin_view o)) o ≡ true
is_from_itself (origins.Entry k) = eq-eqb k k refl
is_from_itself (origins.Own k) = eq-eqb k k refl

-- ---- joints

abbrev pub joint_to : ℕ → Bringer → Joint
joint_to c b = record { to = c; by = b }

at_from : (a i j : ℕ) (b : Bringer) (x : Joint) → IsIn x (joint_at a i j b) → (i ≡ a) × (x ≡ joint_to j b)
at_from a i j b x k = go (eqb i a) refl k
  where
    go : (t : Bool) → eqb i a ≡ t → IsIn x (cond t (joint_to j b ∷ []) []) → (i ≡ a) × (x ≡ joint_to j b)
    go true e (inl q) = (eqb-true i a e, sym q)
    go true e (inr q) = absurd q
    go false e q = absurd q

at_has : (a i j : ℕ) (b : Bringer) → i ≡ a → IsIn (joint_to j b) (joint_at a i j b)
at_has a i j b e = subst (λ t. IsIn (joint_to j b) (cond t (joint_to j b ∷ []) [])) (sym (eq-eqb i a e)) (inl refl)

joined : (a i j c : ℕ) → i ≡ a → j ≡ c → (eqb i a && eqb j c) ≡ true
joined a i j c p q = and_from (eqb i a) (eqb j c) (eq-eqb i a p) (eq-eqb j c q)

pub led_from : (a : ℕ) (l : Link) (b : Bringer) (x : Joint) → IsIn x (led_by a l b) → (joins a x.to l ≡ true) × (x.by ≡ b)
led_from a (Single i) b x k = absurd k
led_from a (Pair i j) b x k = ⊎_elim
    (λ z. let p = at_from a i j b x z in (or_left (eqb i a && eqb j x.to) (eqb i x.to && eqb j a) (joined a i j x.to p.0 (sym (ap (λ (y : Joint). y.to) p.1))), ap (λ (y : Joint). y.by) p.1))
    (λ z. let p = at_from a j i b x z in (or_right (eqb i a && eqb j x.to) (eqb i x.to && eqb j a) (joined x.to i j a (sym (ap (λ (y : Joint). y.to) p.1)) p.0), ap (λ (y : Joint). y.by) p.1))
    (IsIn-append x (joint_at a i j b) (joint_at a j i b) k)

pub led_has : (a c : ℕ) (l : Link) (b : Bringer) → joins a c l ≡ true → IsIn (joint_to c b) (led_by a l b)
led_has a c (Single i) b e = absurd (false≢true e)
led_has a c (Pair i j) b e = ⊎_elim
    (λ z. let p = and_parts (eqb i a) (eqb j c) z in append_left (joint_to c b) (joint_at a i j b) (joint_at a j i b) (subst (λ x. IsIn (joint_to x b) (joint_at a i j b)) (eqb-true j c p.1) (at_has a i j b (eqb-true i a p.0))))
    (λ z. let p = and_parts (eqb i c) (eqb j a) z in append_right (joint_to c b) (joint_at a i j b) (joint_at a j i b) (subst (λ x. IsIn (joint_to x b) (joint_at a j i b)) (eqb-true i c p.0) (at_has a j i b (eqb-true j a p.1))))
    (or_cases (eqb i a && eqb j c) (eqb i c && eqb j a) e)

pub beyond : {X : Type 0} (xs : List (List X)) (i : ℕ) → length xs ≤ i → get_or xs i [] ≡ []
beyond [] i l = refl
beyond (x ∷ xs) zero l = absurd (omega (arith, l))
beyond (x ∷ xs) (suc i) l = beyond xs i (omega (arith, l))

module _ (named : said.Origin → List Link) (n : ℕ) (ties : List Tie) (joints : List (List Joint)) (are : AreTies named ties) (of_ties : OfPlaces n ties) (joint : AreJoints n ties joints) where
  -- what stands at a place is a pair there that its origin names
  pub joint_named : (a : ℕ) (x : Joint) → IsIn x (get_or joints a []) → list_any (joins a x.to) (named (bringer_view x.by)) ≡ true
  joint_named a x k = ⊎_elim
      (λ beyond_it. absurd (subst (IsIn x) (beyond joints a (let long = joint.long in omega (arith, long, beyond_it))) k))
      (λ below.
      let t = IsIn-flat_map (λ (t : Tie). led_by a t.link t.by) x ties (subst (IsIn x) (joint.at a below) k) in
      let p = led_from a t.0.link t.0.by x t.2 in
      any_has (joins a x.to) t.0.link (named (bringer_view x.by)) (subst (λ (b : Bringer). IsIn t.0.link (named (bringer_view b))) (sym p.1) (are.sound t.0 t.1)) p.0)
      (either a n)
    where
      either : (a n : ℕ) → n ≤ a ⊎ a < n
      either a zero = inl (omega arith)
      either zero (suc n) = inr (omega arith)
      either (suc a) (suc n) = ⊎_elim (λ e. inl (omega (arith, e))) (λ e. inr (omega (arith, e))) (either a n)

  pub joint_there : (a c : ℕ) (o : said.Origin) → list_any (joins a c) (named o) ≡ true → IsIn (joint_to c (bringer_of o)) (get_or joints a [])
  joint_there a c o e =
      let l = any_from (joins a c) (named o) e in
      let t : Tie = tied l.0 (bringer_of o) in
      let z : IsIn t ties = are.complete o l.0 l.1 in
      let below : a < n = joined_below l.0 l.2 (of_ties t z) in
      subst (IsIn (joint_to c (bringer_of o))) (sym (joint.at a below)) (flat_map_has (λ (t : Tie). led_by a t.link t.by) t (joint_to c (bringer_of o)) ties z (led_has a c l.0 (bringer_of o) l.2))
    where
      joined_below : (l : Link) → joins a c l ≡ true → Rattle.cube_model.specs.LinkLaws.IsOfPlaces n l → a < n
      joined_below (Single i) e p = absurd (false≢true e)
      joined_below (Pair i j) e p = ⊎_elim
          (λ z. subst (λ x. x < n) (eqb-true i a (and_parts (eqb i a) (eqb j c) z).0) p.0)
          (λ z. subst (λ x. x < n) (eqb-true j a (and_parts (eqb i c) (eqb j a) z).1) p.1)
          (or_cases (eqb i a && eqb j c) (eqb i c && eqb j a) e)

  pub tell_steps : TellSteps named joints
  tell_steps s = both_ways (goes_by joints s) (list_any (joins s.from s.to) (named (origin_view s.by)))
      (λ e.
      let x = any_from (λ j. eqb j.to s.to && is_from j.by s.by) (get_or joints s.from []) e in
      let p = and_parts (eqb x.0.to s.to) (is_from x.0.by s.by) x.2 in
      subst (λ o. list_any (joins s.from s.to) (named o) ≡ true) (from_is x.0.by s.by p.1) (subst (λ c. list_any (joins s.from c) (named (bringer_view x.0.by)) ≡ true) (eqb-true x.0.to s.to p.0) (joint_named s.from x.0 x.1)))
      (λ e. any_has (λ j. eqb j.to s.to && is_from j.by s.by) (joint_to s.to (bringer_of (origin_view s.by))) (get_or joints s.from []) (joint_there s.from s.to (origin_view s.by) e)
      (and_from (eqb s.to s.to) (is_from (bringer_of (origin_view s.by)) s.by) (eq-eqb s.to s.to refl) (is_from_itself s.by)))

-- ---- steps

led_cons : (named : said.Origin → List Link) (at : ℕ) (s : WalkStep) (rest : List WalkStep) (b : Bool) → (eqb s.from at && list_any (joins s.from s.to) (named (origin_view s.by))) ≡ b → led_if named at (s ∷ rest) ≡ cond b (led_if named s.to rest) None
led_cons named at s rest b e = ap (λ (t : Bool). cond (t && are_steps named s.to (steps_view rest)) (Some (led_to s.to (steps_view rest))) None) e ∙ go b
  where
    go : (b : Bool) → cond (b && are_steps named s.to (steps_view rest)) (Some (led_to s.to (steps_view rest))) None ≡ cond b (led_if named s.to rest) None
    go true = refl
    go false = refl

pub led_more : (named : said.Origin → List Link) (joints : List (List Joint)) (at i : ℕ) (steps : List WalkStep) (d : WalkStep) (b : Bool) → TellSteps named joints → i < length steps
    → b ≡ (eqb (get_or steps i d).from at && goes_by joints (get_or steps i d)) → led_if named at (drop i steps) ≡ cond b (led_if named (get_or steps i d).to (drop (i + 1) steps)) None
led_more named joints at i steps d b tell l e =
    let s = get_or steps i d in
    ap (led_if named at) (drop_more steps i d l) ∙ led_cons named at s (drop (i + 1) steps) b (ap (λ (t : Bool). eqb s.from at && t) (sym (tell s)) ∙ sym e)

pub led_end : (named : said.Origin → List Link) (at i : ℕ) (steps : List WalkStep) → length steps ≤ i → led_if named at (drop i steps) ≡ Some at
led_end named at i steps l = ap (led_if named at) (drop_all i steps l)

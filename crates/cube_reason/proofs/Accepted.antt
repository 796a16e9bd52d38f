-- What steps and an end show of a walk.
use Rattle.std.specs.List.{list_all, list_any}
use Rattle.std.proofs.Common.{◌≡◌, ℕ, suc, ◌%◌, ◌<◌, Bool, true, false, cond, not, ◌&&◌, ◌||◌, List, [], ◌∷◌, length, Option, Some, None, refl, sym, ap, ap₂, ◌∙◌, subst, arith, eqb}
use Rattle.std.proofs.lemmas.Bool.{and_parts, and_from, ltb-true}
use Rattle.cube_model.specs.declared.entry.Entry.{Entry}
use Rattle.cube_model.specs.declared.link.Link.{Link}
use Rattle.cube_model.specs.declared.request.Request.{Request}
use Rattle.cube_model.specs.Cubes.{Public, IsIn}
use Rattle.cube_model.specs.declared.policy.Policy.{Policy}
use Rattle.cube_model.specs.declared.request.What.TheVariants.{Measure}
use Rattle.cube_model.specs.Cores.{Core, shown}
use Rattle.cube_model.specs.Dims.{plains}
use Rattle.cube_model.specs.Policies.{IsPolicy}
use Rattle.cube_model.specs.Requests.{is_valid, is_there, fits, is_grouped, is_one}
use Rattle.cube_model.specs.Protection.{listed, guarded}
use Rattle.cube_model.specs.Reasons.{Origin, are_steps, led_to, is_at, is_odd, is_end, is_walk, links_by}
use Rattle.cube_model.proofs.Alike.{both_ways}
use Rattle.cube_model.proofs.Walks.{any_from, any_has}
use Rattle.cube_reason.proofs.Steps.{from_is, is_from_itself, tell_steps}
use Rattle.cube_reason.specs.Stepped.{is_from, is_single, led_if, ends_at, TellSteps}
use Rattle.cube_reason.specs.Tied.{tied, bringer_of, AreTies, OfPlaces, AreJoints}
use Rattle.cube_reason.specs.Views.{origin_view, steps_view, end_view}
use Rattle.cube_reason.specs.declared.joints.Joint.{Joint}
use Rattle.cube_reason.specs.declared.reasons.End.{End}
use Rattle.cube_reason.specs.declared.reasons.WalkStep.{WalkStep}
use Rattle.cube_reason.specs.declared.ties.Tie.{Tie}

not_not : (b : Bool) → b ≡ not (not b)
not_not true = refl
not_not false = refl

pub odd_is : (steps : List WalkStep) → eqb (length steps % 2) 1 ≡ is_odd (steps_view steps)
odd_is [] = refl
odd_is (s ∷ []) = refl
odd_is (s ∷ t ∷ steps) = let e : suc (suc (length steps)) % 2 ≡ length steps % 2 = omega arith in ap (λ n. eqb n 1) e ∙ odd_is steps ∙ not_not (is_odd (steps_view steps))

module _ (named : Origin → List Link) (ties : List Tie) (are : AreTies named ties) where
  single_is : (e : End) → list_any (is_single e.place e.by) ties ≡ list_any (is_at e.place) (named (origin_view e.by))
  single_is e = both_ways (list_any (is_single e.place e.by) ties) (list_any (is_at e.place) (named (origin_view e.by)))
      (λ h.
      let t = any_from (is_single e.place e.by) ties h in
      let p = and_parts (is_at e.place t.0.link) (is_from t.0.by e.by) t.2 in
      any_has (is_at e.place) t.0.link (named (origin_view e.by)) (subst (λ o. IsIn t.0.link (named o)) (from_is t.0.by e.by p.1) (are.sound t.0 t.1)) p.0)
      (λ h.
      let l = any_from (is_at e.place) (named (origin_view e.by)) h in
      any_has (is_single e.place e.by) (tied l.0 (bringer_of (origin_view e.by))) ties (are.complete (origin_view e.by) l.0 l.1) (and_from (is_at e.place l.0) (is_from (bringer_of (origin_view e.by)) e.by) l.2 (is_from_itself e.by)))

  ends_is : (start : ℕ) (steps : List WalkStep) (e : Option End) (at : ℕ) → led_to start (steps_view steps) ≡ at → ends_at ties start steps e at ≡ is_end named start (steps_view steps) (end_view e)
  ends_is start steps None at l = ap (λ n. is_odd (steps_view steps) && eqb n start) (sym l)
  ends_is start steps (Some e) at l = ap₂ (λ n b. eqb e.place n && b) (sym l) (single_is e)

module _ (g : Public) (h : List Entry) (r : Request) (m place : ℕ) (steps : List WalkStep) (e : Option End) where
  pub unguarded : listed place (guarded g m) ≡ false → false ≡ is_walk g h r m place (steps_view steps) (end_view e)
  unguarded off = sym (ap (λ (b : Bool). b && are_steps (links_by g h r m) place (steps_view steps) && is_end (links_by g h r m) place (steps_view steps) (end_view e)) off)

  as_walk : listed place (guarded g m) ≡ true → (b : Bool) → are_steps (links_by g h r m) place (steps_view steps) ≡ b → is_walk g h r m place (steps_view steps) (end_view e) ≡ (b && is_end (links_by g h r m) place (steps_view steps) (end_view e))
  as_walk held b s = ap₂ (λ (a b : Bool). a && b && is_end (links_by g h r m) place (steps_view steps) (end_view e)) held s

  pub astray : listed place (guarded g m) ≡ true → led_if (links_by g h r m) place steps ≡ None → false ≡ is_walk g h r m place (steps_view steps) (end_view e)
  astray held none = go (are_steps (links_by g h r m) place (steps_view steps)) refl none
    where
      go : (b : Bool) → are_steps (links_by g h r m) place (steps_view steps) ≡ b → cond b (Some (led_to place (steps_view steps))) None ≡ None → false ≡ is_walk g h r m place (steps_view steps) (end_view e)
      go true q n = absurd (cc)
      go false q n = sym (as_walk held false q)

  pub led_there : (ties : List Tie) (at : ℕ) → AreTies (links_by g h r m) ties → listed place (guarded g m) ≡ true → led_if (links_by g h r m) place steps ≡ Some at → ends_at ties place steps e at ≡ is_walk g h r m place (steps_view steps) (end_view e)
  led_there ties at are held some = go (are_steps (links_by g h r m) place (steps_view steps)) refl some
    where
      go : (b : Bool) → are_steps (links_by g h r m) place (steps_view steps) ≡ b → cond b (Some (led_to place (steps_view steps))) None ≡ Some at → ends_at ties place steps e at ≡ is_walk g h r m place (steps_view steps) (end_view e)
      go true q n = let l : led_to place (steps_view steps) ≡ at = cc in ends_is (links_by g h r m) ties are place steps e at l ∙ sym (as_walk held true q)
      go false q n = absurd (cc)

pub measure_there : (c : Core) (p : Policy) (r : Request) (m : ℕ) → IsPolicy c.dims p → is_valid (shown c p) r ≡ true → r.what ≡ Measure m → m < length c.dims.measures
unfolding is_valid
measure_there c p r m rules v e =
    let front = (and_parts (fits (plains c.dims) r.group r.picks && is_there (shown c p) r.what) (not (is_grouped (plains c.dims) r.group) || list_all is_one r.picks) v).0 in
    let there : is_there (shown c p) r.what ≡ true = (and_parts (fits (plains c.dims) r.group r.picks) (is_there (shown c p) r.what) front).1 in
    subst (λ n. m < n) rules.methods (ltb-true m (length p.methods) (sym (ap (is_there (shown c p)) e) ∙ there))

pub tell_all : (named : Origin → List Link) (n k : ℕ) (ties all : List Tie) (joints every : List (List Joint)) → AreTies named ties → OfPlaces k ties → n ≡ k → all ≡ ties → AreJoints n all joints → every ≡ joints → TellSteps named every
tell_all named n k ties all joints every are of_ties size is joint shown_is =
    let joint' : AreJoints k ties joints = subst (λ x. AreJoints x ties joints) size (subst (λ ts. AreJoints n ts joints) is joint) in
    subst (TellSteps named) (sym shown_is) (tell_steps named k ties joints are of_ties joint')

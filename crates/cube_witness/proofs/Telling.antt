-- What the grounds of a history tell is what the definition of the changes says.
use Rattle.std.specs.List.{list_any}
use Rattle.std.proofs.Common.{◌≡◌, ℕ, ◌<◌, ◌⊎◌, inl, inr, Bool, true, false, cond, List, [], ◌∷◌, ◌++◌, length, map, fold, Some, None, ℤ, sym, ap, ◌∙◌, subst, ⊎_elim}
use Rattle.std.proofs.lemmas.List.{length-map}
use Rattle.cube_model.specs.declared.cell.Cell.{Cell}
use Rattle.cube_model.specs.declared.change.Change.{Change}
use Rattle.cube_model.specs.declared.entry.Entry.{Entry}
use Rattle.cube_model.specs.declared.link.Link.{Link}
use Rattle.cube_model.specs.declared.policy.Method.TheVariants as method
use Rattle.cube_model.specs.declared.policy.Policy.{Policy}
use Rattle.cube_model.specs.Cores.{Core, IsCore, shown, world}
use Rattle.cube_model.specs.Cubes.{Public, World, IsWorld, covered, places, count_from, IsIn}
use Rattle.cube_model.specs.Dims.{plains}
use Rattle.cube_model.specs.Links.{follows, is_free, basis}
use Rattle.cube_model.specs.LinkLaws.{AreOfPlaces}
use Rattle.cube_model.specs.Policies.{IsPolicy}
use Rattle.cube_model.specs.Protection.{method as method_of, protected, protected_by, guarded, same_cell, first}
use Rattle.cube_model.specs.Twins.{by_walks, walks, change_under, changes, moves}
use Rattle.cube_model.specs.Verdicts.{links_of, IsAdmissible}
use Rattle.cube_model.proofs.Alike.{of_places_to}
use Rattle.cube_model.proofs.Compacts.{kept_more, InRange, source_in_range}
use Rattle.cube_model.proofs.Filled.{cores_are_worlds}
use Rattle.cube_model.proofs.Histories.{admissible_allowed}
use Rattle.cube_model.proofs.LinkFacts.{free_to, basis_suits, same_changes}
use Rattle.cube_model.proofs.Members.{IsIn-append}
use Rattle.cube_model.proofs.Objects.{same_cell_eq}
use Rattle.cube_model.proofs.Parities.{links_of_places, history_free, parity_place, changes_walks}
use Rattle.cube_model.proofs.Sources.{place_below, changes_by}
use Rattle.cube_model.proofs.Sums.{length-count_from}
use Rattle.cube_model.proofs.Twinned.{map_alike}
use Rattle.cube_model.proofs.Walks.{any_from}
use Rattle.cube_witness.specs.declared.grounds.Grounds.{Grounds}
use Rattle.cube_witness.specs.declared.grounds.Grounds.TheVariants.{Plain, Source, Pairs}
use Rattle.cube_witness.specs.Grounds.{IsGrounds, HasHistory, change_by, CanTell, moves_in}

-- ---- a basis is of the links

kept_of : (n : ℕ) (kept ls : List Link) (l : Link) → IsIn l (fold (kept_more n) kept ls) → IsIn l kept ⊎ IsIn l ls
unfolding kept_more
kept_of n kept [] l h = inl h
kept_of n kept (k ∷ ls) l h = go (follows n kept k) (kept_of n kept ls l) (kept_of n (kept ++ k ∷ []) ls l) h
  where
    behind : IsIn l kept ⊎ IsIn l (k ∷ []) → IsIn l kept ⊎ IsIn l (k ∷ ls)
    behind (inl h) = inl h
    behind (inr (inl e)) = inr (inl e)
    behind (inr (inr h)) = absurd h

    go : (b : Bool) → (IsIn l (fold (kept_more n) kept ls) → IsIn l kept ⊎ IsIn l ls) → (IsIn l (fold (kept_more n) (kept ++ k ∷ []) ls) → IsIn l (kept ++ k ∷ []) ⊎ IsIn l ls)
        → IsIn l (fold (kept_more n) (cond b kept (kept ++ k ∷ [])) ls) → IsIn l kept ⊎ IsIn l (k ∷ ls)
    go true stays grown h = ⊎_elim (λ a. inl a) (λ a. inr (inr a)) (stays h)
    go false stays grown h = ⊎_elim (λ a. behind (IsIn-append l kept (k ∷ []) a)) (λ a. inr (inr a)) (grown h)

basis_of : (n : ℕ) (ls : List Link) (l : Link) → IsIn l (basis n ls) → IsIn l ls
unfolding kept_more
basis_of n ls l h = ⊎_elim (λ a. absurd a) (λ a. a) (kept_of n [] ls l h)

-- ---- one protected cell

pub in_protected : (g : Public) (m : ℕ) (t : Cell) → list_any (same_cell t) (protected g m) ≡ true → IsIn t (protected g m)
in_protected g m t e = let a = any_from (same_cell t) (protected g m) e in subst (λ s. IsIn s (protected g m)) (sym (same_cell_eq t a.0 a.2)) a.1

some_is : (i j : ℕ) → Some i ≡ Some j → i ≡ j
some_is i j e = cc

module _ (w : World) (m : ℕ) (t : Cell) (ok : IsWorld w) (there : IsIn t (protected w.shown m)) (i : ℕ) (here : Some i ≡ first (covered w.shown t)) where
  -- the one place of a cell of a parity measure is guarded
  is_guarded : method_of w.shown m ≡ method.Parity → IsIn i (guarded w.shown m)
  is_guarded way =
      let a = parity_place w m t ok way there in
      subst (λ k. IsIn k (guarded w.shown m)) (some_is a.alone.place i (sym a.alone.is_first ∙ sym here)) a.guards

  is_place : method_of w.shown m ≡ method.Parity → i < length w.shown.shape.points
  is_place way =
      let a = parity_place w m t ok way there in
      subst (λ k. k < length w.shown.shape.points) (some_is a.alone.place i (sym a.alone.is_first ∙ sym here)) a.alone.below

  -- it is free from the links that are kept
  kept_free : (h : List Entry) → method_of w.shown m ≡ method.Parity → IsAdmissible w.shown h → is_free (length w.shown.shape.points) (basis (length w.shown.shape.points) (links_of w.shown h m)) i ≡ true
  kept_free h way adm =
      let n = length w.shown.shape.points in
      let ls = links_of w.shown h m in
      free_to n ls (basis n ls) i (λ xs. ((basis_suits n ls xs).1, (basis_suits n ls xs).0)) (history_free w.shown h m way adm i (is_guarded way))

  can_tell_by : (h : List Entry) (grounds : Grounds) → IsAdmissible w.shown h → IsGrounds w.shown h m grounds → CanTell w.shown.dimensions (length w.shown.shape.points) i grounds
  can_tell_by h Plain adm is = tt
  can_tell_by h (Source None) adm is = tt
  can_tell_by h (Source (Some levels)) adm is = subst (InRange w.shown) (sym is.1) (source_in_range w.shown h m (admissible_allowed w.shown [] h adm))
  can_tell_by h (Pairs colouring) adm is =
      let free = kept_free h is.0 adm in
      (is.1, is_place is.0, rw (is.1, is.2) free)

  -- ---- the changes

  by_history : (h : List Entry) (grounds : Grounds) → IsAdmissible w.shown h → IsGrounds w.shown h m grounds → map (change_by grounds w.shown t i) (places w.shown) ≡ changes w.shown h m t
  unfolding protected
  by_history h Plain adm is = absurd (subst (λ x. IsIn t (protected_by x w.shown m)) is there)
  by_history h (Source None) adm is = sym
      (changes_by w.shown h m t is.0 ∙ ap (λ o. map (change_under o w.shown t) (places w.shown)) (sym is.1) ∙ ap (λ o. map (Rattle.cube_model.specs.Twins.with_first Rattle.cube_model.specs.Twins.plus_at o) (places w.shown)) (sym here))
  by_history h (Source (Some levels)) adm is = sym (changes_by w.shown h m t is.0 ∙ ap (λ o. map (change_under o w.shown t) (places w.shown)) (sym is.1))
  by_history h (Pairs colouring) adm is = map_alike _ _ (places w.shown) one ∙ sym (changes_walks w.shown h m t i is.0 (sym here))
    where
      n : ℕ
      n = length w.shown.shape.points

      ls : List Link
      ls = links_of w.shown h m

      of_places : AreOfPlaces n ls
      of_places l z = of_places_to n l (links_of_places w.shown h m l (admissible_allowed w.shown [] h adm) z)

      one : (p : ℕ) → IsIn p (places w.shown) → change_by (Pairs colouring) w.shown t i p ≡ by_walks (walks w.shown h m i) p
      one p q = rw (is.1, is.2) (sym (same_changes (length w.shown.shape.points) (links_of w.shown h m) (basis (length w.shown.shape.points) (links_of w.shown h m)) i p
          (λ l z. of_places_to (length w.shown.shape.points) l (links_of_places w.shown h m l (admissible_allowed w.shown [] h adm) z))
          (λ l z. of_places_to (length w.shown.shape.points) l (links_of_places w.shown h m l (admissible_allowed w.shown [] h adm) (basis_of (length w.shown.shape.points) (links_of w.shown h m) l z)))
          (is_place is.0) (place_below w.shown p q) (λ xs. ((basis_suits (length w.shown.shape.points) (links_of w.shown h m) xs).1, (basis_suits (length w.shown.shape.points) (links_of w.shown h m) xs).0))
          (history_free w.shown h m is.0 adm i (is_guarded is.0))))

-- ---- in a core

pub can_tell : (core : Core) (p : Policy) (m i : ℕ) (t : Cell) (grounds : Grounds) → IsCore core → IsPolicy core.dims p → HasHistory (shown core p) m grounds → list_any (same_cell t) (protected (shown core p) m) ≡ true
    → Some i ≡ first (covered (shown core p) t) → CanTell (plains core.dims) (length core.shape.points) i grounds
can_tell core p m i t grounds ok rules has e here =
    can_tell_by (world core p) m t (cores_are_worlds core p ok rules.methods) (in_protected (shown core p) m t e) i here has.history grounds has.admissible has.grounds_of

pub signs_long : (core : Core) (i : ℕ) (t : Cell) (grounds : Grounds) (signs : List ℤ) → ((q : Policy) → signs ≡ map (change_by grounds (shown core q) t i) (count_from 0 (length core.shape.points))) → length signs ≡ length core.shape.points
signs_long core i t grounds signs by =
    let p : Policy = record { methods = []; objects = [] } in
    let n = length core.shape.points in
    ap length (by p) ∙ length-map (count_from 0 n) (change_by grounds (shown core p) t i) ∙ length-count_from 0 n

pub told : (core : Core) (p : Policy) (m i : ℕ) (t : Cell) (grounds : Grounds) (signs : List ℤ) (made : List Change) → IsCore core → IsPolicy core.dims p → list_any (same_cell t) (protected (shown core p) m) ≡ true
    → Some i ≡ first (covered (shown core p) t) → ((q : Policy) → signs ≡ map (change_by grounds (shown core q) t i) (count_from 0 (length core.shape.points))) → made ≡ moves_in signs (length signs)
    → (h : List Entry) → IsAdmissible (shown core p) h → IsGrounds (shown core p) h m grounds → made ≡ moves (shown core p) (changes (shown core p) h m t)
told core p m i t grounds signs made ok rules e here by is h adm of =
    let all = by_history (world core p) m t (cores_are_worlds core p ok rules.methods) (in_protected (shown core p) m t e) i here h grounds adm of in
    let n = length core.shape.points in
    let long = signs_long core i t grounds signs by in
    is ∙ ap (moves_in signs) long ∙ ap (λ (ch : List ℤ). moves_in ch n) (by p ∙ all)

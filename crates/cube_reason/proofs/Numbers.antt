-- Entries and links by number, and the ties that they bring.
use Rattle.std.proofs.Common.{◌≡◌, ℕ, zero, suc, ◌+◌, ◌<◌, ◌≤◌, ◌⊎◌, inl, inr, Bool, true, false, cond, List, [], ◌∷◌, ◌++◌, length, map, get_or, Option, Some, None, refl, sym, ap, ◌∙◌, subst, arith, ⊎_elim}
use Rattle.cube_model.specs.declared.entry.Entry.{Entry}
use Rattle.cube_model.specs.declared.link.Link.{Link}
use Rattle.cube_model.specs.declared.request.Request.{Request}
use Rattle.cube_model.specs.Cubes.{Public, IsIn}
use Rattle.cube_model.specs.Entries.{is_allowed, is_on, links_in}
use Rattle.cube_model.specs.Links.{links}
use Rattle.cube_model.specs.LinkLaws.{IsOfPlaces}
use Rattle.cube_model.specs.Reasons.{Origin, numbered, links_on, at_most_one, links_by}
use Rattle.cube_model.specs.Reasons.Origin.{By, Own}
use Rattle.cube_model.proofs.Alike.{of_places_to}
use Rattle.cube_model.proofs.Histories.{Each-at}
use Rattle.cube_model.proofs.Members.{IsIn-append, append_left, append_right, IsIn-map, map_has, same_or_above}
use Rattle.cube_model.proofs.Parities.{links_places, entry_places}
use Rattle.cube_reason.specs.Given.{AreAllowed}
use Rattle.cube_reason.specs.Tied.{tied, bringer_view, bringer_of, AreTies, IsOfEntry, EntriesTied, IsOwn, OwnTied, OfPlaces}
use Rattle.cube_reason.specs.declared.ties.Bringer.{Bringer}
use Rattle.cube_reason.specs.declared.ties.Bringer.TheVariants as bringers
use Rattle.cube_reason.specs.declared.ties.Tie.{Tie}

-- ---- numbers

pub numbered_at : {X : Type 0} (xs : List X) (i : ℕ) (d x : X) → i < length xs → x ≡ get_or xs i d → numbered (suc i) xs ≡ Some x
numbered_at [] i d x l e = absurd (omega (arith, l))
numbered_at (y ∷ ys) zero d x l e = ap Some (sym e)
numbered_at (y ∷ ys) (suc i) d x l e = numbered_at ys i d x (omega (arith, l)) e

pub in_at : {X : Type 0} (xs : List X) (i : ℕ) (d : X) → i < length xs → IsIn (get_or xs i d) xs
in_at [] i d l = absurd (omega (arith, l))
in_at (x ∷ xs) zero d l = inl refl
in_at (x ∷ xs) (suc i) d l = inr (in_at xs i d (omega (arith, l)))

pub numbered_none : {X : Type 0} (xs : List X) (n : ℕ) → length xs < n → numbered n xs ≡ None
numbered_none xs zero l = refl
numbered_none [] (suc n) l = refl
numbered_none (x ∷ xs) (suc zero) l = absurd (omega (arith, l))
numbered_none (x ∷ xs) (suc (suc n)) l = numbered_none xs (suc n) (omega (arith, l))

pub numbered_in : {X : Type 0} (n : ℕ) (xs : List X) (x : X) → numbered n xs ≡ Some x → IsIn x xs
numbered_in zero xs x e = absurd (cc)
numbered_in (suc n) [] x e = absurd (cc)
numbered_in (suc zero) (y ∷ ys) x e = inl (cc)
numbered_in (suc (suc n)) (y ∷ ys) x e = inr (numbered_in (suc n) ys x e)

-- what a number names is there
pub within : {X : Type 0} (xs : List X) (n : ℕ) (x : X) → numbered n xs ≡ Some x → n ≤ length xs
within xs zero x e = omega arith
within [] (suc n) x e = absurd (cc)
within (y ∷ ys) (suc zero) x e = omega arith
within (y ∷ ys) (suc (suc n)) x e = let m = within ys (suc n) x e in omega (arith, m)

-- an entry on the measure brings what the number names
pub record Brings (g : Public) (h : List Entry) (m n : ℕ) (l : Link) : Type 0 where
  pub entry : Entry
  pub at : numbered n h ≡ Some entry
  pub on : is_on m entry ≡ true
  pub link : IsIn l (links_in g entry)

pub brought : (g : Public) (h : List Entry) (m n : ℕ) (l : Link) → IsIn l (links_on g m (numbered n h)) → Brings g h m n l
brought g h m n l k = go (numbered n h) refl k
  where
    at : (e : Entry) → numbered n h ≡ Some e → (b : Bool) → is_on m e ≡ b → IsIn l (cond b (links_in g e) []) → Brings g h m n l
    at e q true p y = record { entry = e; at = q; on = p; link = y }
    at e q false p y = absurd y

    go : (o : Option Entry) → numbered n h ≡ o → IsIn l (links_on g m o) → Brings g h m n l
    go None q z = absurd z
    go (Some e) q z = at e q (is_on m e) refl z

-- the links of one link, where there is one
pub record IsNumbered (links : List Link) (k : ℕ) (l : Link) : Type 0 where
  pub at : numbered k links ≡ Some l

pub own_at : (links : List Link) (k : ℕ) (l : Link) → IsIn l (at_most_one (numbered k links)) → IsNumbered links k l
own_at links k l z = go (numbered k links) refl z
  where
    go : (o : Option Link) → numbered k links ≡ o → IsIn l (at_most_one o) → IsNumbered links k l
    go None q z = absurd z
    go (Some x) q (inl e) = record { at = q ∙ ap Some e }
    go (Some x) q (inr z) = absurd z

-- ---- the ties of a history

links_at : (g : Public) (h : List Entry) (m i : ℕ) (e : Entry) → i < length h → e ≡ get_or h i e → links_on g m (numbered (i + 1) h) ≡ cond (is_on m e) (links_in g e) []
links_at g h m i e l is = let one : i + 1 ≡ suc i = omega arith in ap (λ n. links_on g m (numbered n h)) one ∙ ap (links_on g m) (numbered_at h i e e l is)

pub none_tied : (g : Public) (h : List Entry) (m : ℕ) → EntriesTied g h m 0 []
none_tied g h m = record { sound = λ t k. absurd k; complete = λ n l le k. let e : n ≡ 0 = omega (arith, le) in absurd (subst (λ x. IsIn l (links_on g m (numbered x h))) e k) }

pub entry_tied : (g : Public) (h : List Entry) (m i : ℕ) (e : Entry) (links : List Link) (ties more : List Tie) → i < length h → e ≡ get_or h i e → is_on m e ≡ true → links ≡ links_in g e
    → more ≡ ties ++ map (λ l. tied l (bringers.Entry (i + 1))) links → EntriesTied g h m i ties → EntriesTied g h m (i + 1) more
entry_tied g h m i e links ties more lt is on are grown t = record {
  sound = λ x k. ⊎_elim (t.sound x) (λ r. added x (IsIn-map (λ (l : Link). tied l (bringers.Entry (i + 1))) x links r)) (IsIn-append x ties (map (λ l. tied l (bringers.Entry (i + 1))) links) (subst (IsIn x) grown k));
  complete = λ n l le k. ⊎_elim (λ q. last n l q k) (λ q. earlier n l (omega (arith, q)) k) (same_or_above (i + 1) n le);
}
  where
    here : links_on g m (numbered (i + 1) h) ≡ links
    here = links_at g h m i e lt is ∙ ap (λ b. cond b (links_in g e) []) on ∙ sym are

    added : (x : Tie) → (l : Link) × (IsIn l links) × (tied l (bringers.Entry (i + 1)) ≡ x) → IsOfEntry g h m x
    added x (l, k, q) = record { number = i + 1; by = sym (ap (λ (y : Tie). y.by) q); link = subst (λ (z : List Link). IsIn x.link z) (sym here) (subst (λ z. IsIn z links) (ap (λ (y : Tie). y.link) q) k) }

    earlier : (n : ℕ) (l : Link) → n ≤ i → IsIn l (links_on g m (numbered n h)) → IsIn (tied l (bringers.Entry n)) more
    earlier n l le k = subst (IsIn (tied l (bringers.Entry n))) (sym grown) (append_left (tied l (bringers.Entry n)) ties (map (λ l. tied l (bringers.Entry (i + 1))) links) (t.complete n l le k))

    last : (n : ℕ) (l : Link) → n ≡ i + 1 → IsIn l (links_on g m (numbered n h)) → IsIn (tied l (bringers.Entry n)) more
    last n l q k =
        let z : IsIn l links = subst (IsIn l) here (subst (λ x. IsIn l (links_on g m (numbered x h))) q k) in
        let w : IsIn (tied l (bringers.Entry (i + 1))) more = subst (IsIn (tied l (bringers.Entry (i + 1)))) (sym grown) (append_right (tied l (bringers.Entry (i + 1))) ties (map (λ l. tied l (bringers.Entry (i + 1))) links) (map_has (λ (l : Link). tied l (bringers.Entry (i + 1))) l links z)) in
        subst (λ x. IsIn (tied l (bringers.Entry x)) more) (sym q) w

pub entry_passed : (g : Public) (h : List Entry) (m i : ℕ) (e : Entry) (ties : List Tie) → i < length h → e ≡ get_or h i e → is_on m e ≡ false → EntriesTied g h m i ties → EntriesTied g h m (i + 1) ties
entry_passed g h m i e ties lt is off t = record {
  sound = t.sound;
  complete = λ n l le k. ⊎_elim (λ q. absurd (nothing n l q k)) (λ q. t.complete n l (omega (arith, q)) k) (same_or_above (i + 1) n le);
}
  where
    nothing : (n : ℕ) (l : Link) → n ≡ i + 1 → IsIn l (links_on g m (numbered n h)) → ⊥
    nothing n l q k = subst (IsIn l) (links_at g h m i e lt is ∙ ap (λ b. cond b (links_in g e) []) off) (subst (λ x. IsIn l (links_on g m (numbered x h))) q k)

-- ---- the ties of a request

pub own_start : (links : List Link) (ties : List Tie) → OwnTied links 0 ties ties
own_start links ties = record {
  kept = λ t k. k;
  sound = λ t k. inl k;
  complete = λ n l le k. let e : n ≡ 0 = omega (arith, le) in absurd (subst (λ x. IsIn l (at_most_one (numbered x links))) e k);
}

pub own_more : (links : List Link) (i : ℕ) (d l : Link) (before ties more : List Tie) → i < length links → l ≡ get_or links i d → more ≡ ties ++ tied l (bringers.Own (i + 1)) ∷ [] → OwnTied links i before ties → OwnTied links (i + 1) before more
own_more links i d l before ties more lt is grown t = record {
  kept = λ x k. old x (t.kept x k);
  sound = λ x k. ⊎_elim (t.sound x) (λ r. ⊎_elim (λ e. inr (record { number = i + 1; by = sym (ap (λ (y : Tie). y.by) e); link = subst (λ z. IsIn z (at_most_one (numbered (i + 1) links))) (ap (λ (y : Tie). y.link) e) named })) (λ z. absurd z) r) (IsIn-append x ties (tied l (bringers.Own (i + 1)) ∷ []) (subst (IsIn x) grown k));
  complete = λ n y le k. ⊎_elim (λ q. last n y q k) (λ q. old (tied y (bringers.Own n)) (t.complete n y (omega (arith, q)) k)) (same_or_above (i + 1) n le);
}
  where
    old : (x : Tie) → IsIn x ties → IsIn x more
    old x k = subst (IsIn x) (sym grown) (append_left x ties (tied l (bringers.Own (i + 1)) ∷ []) k)

    at : numbered (i + 1) links ≡ Some l
    at = let one : i + 1 ≡ suc i = omega arith in ap (λ n. numbered n links) one ∙ numbered_at links i d l lt is

    named : IsIn l (at_most_one (numbered (i + 1) links))
    named = subst (λ (o : Option Link). IsIn l (at_most_one o)) (sym at) (inl refl)

    last : (n : ℕ) (y : Link) → n ≡ i + 1 → IsIn y (at_most_one (numbered n links)) → IsIn (tied y (bringers.Own n)) more
    last n y q k =
        let z : IsIn y (at_most_one (Some l)) = subst (λ (o : Option Link). IsIn y (at_most_one o)) (ap (λ x. numbered x links) q ∙ at) k in
        let w : IsIn (tied l (bringers.Own (i + 1))) more = subst (IsIn (tied l (bringers.Own (i + 1)))) (sym grown) (append_right (tied l (bringers.Own (i + 1))) ties (tied l (bringers.Own (i + 1)) ∷ []) (inl refl)) in
        ⊎_elim (λ e. subst (λ x. IsIn (tied y (bringers.Own x)) more) (sym q) (subst (λ x. IsIn (tied x (bringers.Own (i + 1))) more) e w)) (λ z. absurd z) z

-- ---- all of them

module _ (g : Public) (h : List Entry) (r : Request) (m : ℕ) (own : List Link) (front ties : List Tie) (is : own ≡ links g r) (of_history : EntriesTied g h m (length h) front) (of_request : OwnTied own (length own) front ties) where
  name : (t : Tie) → IsIn t ties → IsOfEntry g h m t ⊎ IsOwn own t
  name t k = ⊎_elim (λ z. inl (of_history.sound t z)) (λ z. inr z) (of_request.sound t k)

  pub ties_are : AreTies (links_by g h r m) ties
  ties_are = record {
    sound = λ t k. ⊎_elim
        (λ (z : IsOfEntry g h m t). subst (λ (b : Bringer). IsIn t.link (links_by g h r m (bringer_view b))) (sym z.by) z.link)
        (λ (z : IsOwn own t). subst (λ (b : Bringer). IsIn t.link (links_by g h r m (bringer_view b))) (sym z.by) (subst (λ (ls : List Link). IsIn t.link (at_most_one (numbered z.number ls))) is z.link))
        (name t k);
    complete = complete;
  }
    where
      complete : (o : Origin) (l : Link) → IsIn l (links_by g h r m o) → IsIn (tied l (bringer_of o)) ties
      complete (By n) l k = of_request.kept (tied l (bringers.Entry n)) (of_history.complete n l (let b = brought g h m n l k in within h n b.entry b.at) k)
      complete (Own n) l k =
          let z : IsIn l (at_most_one (numbered n own)) = subst (λ (ls : List Link). IsIn l (at_most_one (numbered n ls))) (sym is) k in
          of_request.complete n l (within own n l (own_at own n l z).at) z

  pub ties_places : AreAllowed g h → OfPlaces (length g.shape.points) ties
  ties_places allowed t k = of_places_to (length g.shape.points) t.link (⊎_elim
      (λ (z : IsOfEntry g h m t). let b = brought g h m z.number t.link z.link in entry_places g b.entry t.link (Each-at (λ e. is_allowed g e ≡ true) b.entry h allowed (numbered_in z.number h b.entry b.at)) b.link)
      (λ (z : IsOwn own t). links_places g r t.link (subst (IsIn t.link) is (numbered_in z.number own t.link (own_at own z.number t.link z.link).at)))
      (name t k))

-- a tie among those of so many places
pub place_tied : (n k : ℕ) (ties : List Tie) (i : ℕ) (d : Tie) → n ≡ k → i < length ties → OfPlaces k ties → IsOfPlaces n (get_or ties i d).link
place_tied n k ties i d e l of_ties = subst (λ x. IsOfPlaces x (get_or ties i d).link) (sym e) (of_ties (get_or ties i d) (in_at ties i d l))

-- Entries measure after measure: what stands on one of them, and that they are admissible.
use Rattle.std.specs.Prelude.{◌+◌}
use Rattle.std.proofs.Common.{◌≡◌, ℕ, zero, suc, ◌<◌, ◌≤◌, ◌⊎◌, inl, inr, true, false, cond, not, List, [], ◌∷◌, ◌++◌, length, map, flat_map, fold, is_none, Option, Some, None, refl, sym, ap, ap₂, ◌∙◌, subst, arith, eqb, append_assoc, append-nil, ⊎_elim}
use Rattle.std.proofs.lemmas.Bool.{false≢true, and_from, eq-eqb, eqb-true, false_from_ne_true}
use Rattle.std.proofs.lemmas.List.Elements.{filter-append}
use Rattle.cube_model.specs.declared.cell.Cell.{Cell}
use Rattle.cube_model.specs.declared.entry.Entry.{Entry}
use Rattle.cube_model.specs.declared.entry.Entry.TheVariants.{Source, Linked}
use Rattle.cube_model.specs.declared.entry.Taken.TheVariants.{Taken, Passed, Refused}
use Rattle.cube_model.specs.declared.link.Link.{Link}
use Rattle.cube_model.specs.declared.policy.Method.TheVariants.{Parity}
use Rattle.cube_model.specs.Cubes.{Public, count_from, Each, IsIn}
use Rattle.cube_model.specs.Protection.{method, guarded, uncut, is_cut, protected, is_parity}
use Rattle.cube_model.specs.Links.{suiting, has_plus, follows}
use Rattle.cube_model.specs.Entries.{is_on, on, levels_in, links_in, is_link, is_allowed}
use Rattle.cube_model.specs.Verdicts.{source, links_of, narrowed, holds_grain, fixed_by, taken, AdmissibleFrom}
use Rattle.cube_model.specs.Compaction.{source_entry}
use Rattle.cube_model.proofs.Compacts.{Fresh, admissible_append}
use Rattle.cube_model.proofs.FixedPlaces.{free_from_fewer}
use Rattle.cube_model.proofs.Histories.{links_of-append}
use Rattle.cube_model.proofs.Leasts.{fails}
use Rattle.cube_model.proofs.Members.{tested}
use Rattle.cube_model.proofs.Parities.{AllFree}

-- ---- what stands on a measure
abbrev pub AllOn : ℕ → List Entry → Type 0
AllOn m es = Each (λ e. (k : ℕ) → is_on k e ≡ eqb m k) es

pub on_all : (m : ℕ) (es : List Entry) → AllOn m es → on m es ≡ es
on_all m [] a = refl
on_all m (e ∷ es) a = ap (λ b. cond b (e ∷ on m es) (on m es)) (a.0 m ∙ eq-eqb m m refl) ∙ ap (λ x. e ∷ x) (on_all m es a.1)

pub on_other : (m k : ℕ) (es : List Entry) → eqb m k ≡ false → AllOn m es → on k es ≡ []
on_other m k [] d a = refl
on_other m k (e ∷ es) d a = ap (λ b. cond b (e ∷ on k es) (on k es)) (a.0 k ∙ d) ∙ on_other m k es d a.1

pub linked_on : (m : ℕ) (ls : List Link) → AllOn m (map (Linked m) ls)
linked_on m [] = tt
linked_on m (l ∷ ls) = ((λ k. refl), linked_on m ls)

pub source_on : (m : ℕ) (o : Option (List ℕ)) → AllOn m (source_entry m o)
source_on m None = tt
source_on m (Some c) = ((λ k. refl), tt)

above : (s m : ℕ) → s ≤ m → eqb s m ≡ false → suc s ≤ m
above s m a e = ⊎_elim (λ q. absurd (false≢true (sym e ∙ eq-eqb s m q))) (λ l. l) (split s m a)
  where
    split : (s m : ℕ) → s ≤ m → (s ≡ m) ⊎ (suc s ≤ m)
    split s m a = grind arith

-- what measures from one on leave of a measure
module _ (f : ℕ → List Entry) (each_on : (m : ℕ) → AllOn m (f m)) where
  on_before : (m s n : ℕ) → m < s → on m (flat_map f (count_from s n)) ≡ []
  on_before m s zero l = refl
  on_before m s (suc n) l = filter-append (is_on m) (f s) (flat_map f (count_from (suc s) n)) ∙ ap₂ (λ x y. x ++ y) (on_other s m (f s) (false_from_ne_true (eqb s m) (λ e. let q : s ≡ m = eqb-true s m e in absurd (omega arith))) (each_on s)) (on_before m (suc s) n (omega arith))

  pub on_within : (m s n : ℕ) → s ≤ m → m < s + n → on m (flat_map f (count_from s n)) ≡ f m
  on_within m s zero a b = absurd (omega arith)
  on_within m s (suc n) a b = filter-append (is_on m) (f s) (flat_map f (count_from (suc s) n)) ∙ tested (eqb s m) here (λ e. later e (on_within m (suc s) n (above s m a e) (omega arith)))
    where
      here : eqb s m ≡ true → on m (f s) ++ on m (flat_map f (count_from (suc s) n)) ≡ f m
      here e = let q : s ≡ m = eqb-true s m e in ap₂ (λ x y. x ++ y) (subst (λ z. on m (f z) ≡ f m) (sym q) (on_all m (f m) (each_on m))) (on_before m (suc s) n (omega arith)) ∙ append-nil (f m)

      later : eqb s m ≡ false → on m (flat_map f (count_from (suc s) n)) ≡ f m → on m (f s) ++ on m (flat_map f (count_from (suc s) n)) ≡ f m
      later e r = ap₂ (λ x y. x ++ y) (on_other s m (f s) e (each_on s)) r

  -- entries of each measure that are admissible behind entries on other measures are so together
  pub admissible_by_measure : (g : Public) → ((c : List Entry) (m : ℕ) → on m c ≡ [] → AdmissibleFrom g c (f m)) → (c : List Entry) (s n : ℕ) → ((m : ℕ) → s ≤ m → on m c ≡ []) → AdmissibleFrom g c (flat_map f (count_from s n))
  admissible_by_measure g each c s zero none = tt
  admissible_by_measure g each c s (suc n) none = admissible_append g c (f s) (flat_map f (count_from (suc s) n))
      (each c s (none s (omega arith)))
      (admissible_by_measure g each (c ++ f s) (suc s) n (λ m l. filter-append (is_on m) c (f s) ∙ ap₂ (λ x y. x ++ y) (none m (omega arith)) (on_other s m (f s) (false_from_ne_true (eqb s m) (λ e. let q : s ≡ m = eqb-true s m e in absurd (omega arith))) (each_on s))))

-- ---- a source
pub source_back : (m : ℕ) (o : Option (List ℕ)) → source (source_entry m o) m ≡ o
unfolding source
source_back m o = ap (λ es. fold (λ s c. Some (narrowed s c)) None (flat_map levels_in es)) (on_all m (source_entry m o) (source_on m o)) ∙ back o
  where
    back : (o : Option (List ℕ)) → fold (λ s c. Some (narrowed s c)) None (flat_map levels_in (source_entry m o)) ≡ o
    back None = refl
    back (Some c) = refl

pub source_taken : (g : Public) (c : List Entry) (m : ℕ) (s : List ℕ) → source c m ≡ None → ((t : Cell) → IsIn t (protected g m) → is_cut g s t ≡ true) → taken g c (Source m s) ≡ Taken
unfolding taken
source_taken g c m s e cuts =
    ap (λ o. cond (holds_grain o s) Passed (cond (is_none (uncut g (narrowed o s) m)) Taken Refused)) e
    ∙ ap (λ o. cond (is_none o) Taken Refused) (fails (λ t. not (is_cut g s t)) (protected g m) (λ t k. ap not (cuts t k)))

-- ---- links
brought : (g : Public) (m : ℕ) (ls : List Link) → flat_map (links_in g) (map (Linked m) ls) ≡ ls
brought g m [] = refl
brought g m (l ∷ ls) = ap (λ x. l ∷ x) (brought g m ls)

pub links_linked : (g : Public) (m : ℕ) (ls : List Link) → links_of g (map (Linked m) ls) m ≡ ls
unfolding links_of
links_linked g m ls = ap (flat_map (links_in g)) (on_all m (map (Linked m) ls) (linked_on m ls)) ∙ brought g m ls

links_nothing : (g : Public) (c : List Entry) (m : ℕ) → on m c ≡ [] → links_of g c m ≡ []
unfolding links_of
links_nothing g c m e = ap (flat_map (links_in g)) e

links_after : (g : Public) (c : List Entry) (m : ℕ) (ls : List Link) → on m c ≡ [] → links_of g (c ++ map (Linked m) ls) m ≡ ls
links_after g c m ls e = links_of-append g c (map (Linked m) ls) m ∙ ap₂ (λ x y. x ++ y) (links_nothing g c m e) (links_linked g m ls)

map-push : (m : ℕ) (ls : List Link) (l : Link) → map (Linked m) (ls ++ l ∷ []) ≡ map (Linked m) ls ++ Linked m l ∷ []
map-push m [] l = refl
map-push m (x ∷ ls) l = ap (λ y. Linked m x ∷ y) (map-push m ls l)

links_taken : (g : Public) (h : List Entry) (m : ℕ) (l : Link) (kept : List Link) → links_of g h m ≡ kept → follows (length g.shape.points) kept l ≡ false → AllFree g m (kept ++ l ∷ []) → taken g h (Linked m l) ≡ Taken
unfolding taken
links_taken g h m l kept e f free =
    ap (λ ls. cond (follows (length g.shape.points) ls l) Passed (cond (is_none (fixed_by (suiting (length g.shape.points) (ls ++ l ∷ [])) (guarded g m))) Taken Refused)) e
    ∙ ap₂ (λ a o. cond a Passed (cond (is_none o) Taken Refused)) f (fails (λ i. not (has_plus (suiting (length g.shape.points) (kept ++ l ∷ [])) i)) (guarded g m) (λ i k. ap not (free i k)))

pub links_admissible : (g : Public) (c : List Entry) (m : ℕ) (kept ls : List Link) → method g m ≡ Parity → on m c ≡ [] → ((l : Link) → IsIn l ls → is_link (length g.shape.points) l ≡ true) → Fresh (length g.shape.points) kept ls → AllFree g m (kept ++ ls) → AdmissibleFrom g (c ++ map (Linked m) kept) (map (Linked m) ls)
unfolding is_allowed
links_admissible g c m kept [] way none apart fresh free = tt
links_admissible g c m kept (l ∷ ls) way none apart fresh free = (
  and_from (is_parity (method g m)) (is_link (length g.shape.points) l) (ap is_parity way) (apart l (inl refl)),
  links_taken g (c ++ map (Linked m) kept) m l kept (links_after g c m kept none) fresh.0 (λ i k. free_from_fewer (length g.shape.points) (kept ++ l ∷ []) ls i (free_all i k)),
  subst (λ x. AdmissibleFrom g x (map (Linked m) ls)) (ap (λ x. c ++ x) (map-push m kept l) ∙ sym (append_assoc c (map (Linked m) kept) (Linked m l ∷ [])))
      (links_admissible g c m (kept ++ l ∷ []) ls way none (λ x k. apart x (inr k)) fresh.1 free_all),
)
  where
    free_all : AllFree g m ((kept ++ l ∷ []) ++ ls)
    free_all = subst (AllFree g m) (sym (append_assoc kept (l ∷ []) ls)) free

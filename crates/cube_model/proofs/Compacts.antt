-- The compacted history stands for the history.
use Rattle.std.specs.Prelude.{◌+◌}
use Rattle.std.proofs.Common.{◌≡◌, ℕ, zero, suc, ◌<◌, ◌≤◌, ◌⊎◌, ◌↔◌, inl, inr, Bool, true, false, cond, min, not, ◌&&◌, List, [], ◌∷◌, ◌++◌, length, map, filter, flat_map, fold, is_none, Option, Some, None, ℤ, refl, sym, ap, ap₂, ◌∙◌, subst, arith, eqb, leb, ltb, ⊎_elim, append_assoc, append-nil}
use Rattle.std.proofs.lemmas.Bool.{false≢true, and_parts, and_from, eq-eqb, eqb-true, lt-ltb, le-leb, leb-true, false_from_ne_true, not_from_false}
use Rattle.std.proofs.lemmas.List.Elements.{filter-append}
use Rattle.cube_model.specs.declared.cell.Cell.{Cell}
use Rattle.cube_model.specs.declared.entry.Entry.{Entry}
use Rattle.cube_model.specs.declared.entry.Entry.TheVariants.{Asked, Source, Linked}
use Rattle.cube_model.specs.declared.entry.Taken.TheVariants.{Taken, Passed, Refused}
use Rattle.cube_model.specs.declared.link.Link.{Link}
use Rattle.cube_model.specs.declared.policy.Method.{Method}
use Rattle.cube_model.specs.declared.policy.Method.TheVariants.{Plain, Lattice, Parity}
use Rattle.cube_model.specs.declared.request.Pick.{Pick}
use Rattle.cube_model.specs.declared.request.Request.{Request}
use Rattle.cube_model.specs.Cubes.{Dimension, Public, meet, count_from, places, IsIn, Each, are_levels}
use Rattle.cube_model.specs.Requests.{grain, lesser, lesser_levels, rows, row_keys, row_at, in_row, fits, is_level}
use Rattle.cube_model.specs.Protection.{method, guarded, uncut, is_cut, protected, is_parity, is_lattice}
use Rattle.cube_model.specs.Links.{linked, links, suiting, has_plus, follows, basis}
use Rattle.cube_model.specs.Entries.{requests, is_on, on, levels_in, links_in, is_link, is_allowed}
use Rattle.cube_model.specs.Verdicts.{source, links_of, narrowed, holds_grain, fixed_by, taken, AdmissibleFrom, IsAdmissible}
use Rattle.cube_model.specs.Runs.{end, by_rules}
use Rattle.cube_model.specs.Compaction.{source_entry, compacted_by, compacted_on, compacted, HoldTheSame, CompactedStands, CompactedRunsAlike, EarlierLivesStayOpen}
use Rattle.cube_model.specs.TwoWorlds.{HoldsMore}
use Rattle.cube_model.specs.LinkLaws.{SuitsAll}
use Rattle.cube_model.proofs.Alike.{changes_alike, suiting_alike, requests-append, alike_run_alike}
use Rattle.cube_model.proofs.Finer.{is_finer_refl}
use Rattle.cube_model.proofs.FixedPlaces.{free_from_fewer}
use Rattle.cube_model.proofs.Growth.{end_grows}
use Rattle.cube_model.proofs.Histories.{AreAllowed, admissible_allowed, Each-at, allowed_on, fits_valid, source_cuts, links_of-append}
use Rattle.cube_model.proofs.Holding.{extended, more_trans}
use Rattle.cube_model.proofs.Leasts.{fails}
use Rattle.cube_model.proofs.LinkFacts.{basis_suits}
use Rattle.cube_model.proofs.Members.{tested, IsIn-filter, IsIn-append, IsIn-map, IsIn-flat_map, IsIn-count_from}
use Rattle.cube_model.proofs.Parities.{AllFree, history_free}
use Rattle.cube_model.proofs.Worlds.{in_list, stays_admissible, changes_of_more}

-- ---- what stands on a measure
-- each entry is on the measure
abbrev AllOn : ℕ → List Entry → Type 0
AllOn m es = Each (λ e. (k : ℕ) → is_on k e ≡ eqb m k) es

on_all : (m : ℕ) (es : List Entry) → AllOn m es → on m es ≡ es
on_all m [] a = refl
on_all m (e ∷ es) a = ap (λ b. cond b (e ∷ on m es) (on m es)) (a.0 m ∙ eq-eqb m m refl) ∙ ap (λ x. e ∷ x) (on_all m es a.1)

on_other : (m k : ℕ) (es : List Entry) → eqb m k ≡ false → AllOn m es → on k es ≡ []
on_other m k [] d a = refl
on_other m k (e ∷ es) d a = ap (λ b. cond b (e ∷ on k es) (on k es)) (a.0 k ∙ d) ∙ on_other m k es d a.1

linked_on : (m : ℕ) (ls : List Link) → AllOn m (map (Linked m) ls)
linked_on m [] = tt
linked_on m (l ∷ ls) = ((λ k. refl), linked_on m ls)

source_on : (m : ℕ) (o : Option (List ℕ)) → AllOn m (source_entry m o)
source_on m None = tt
source_on m (Some c) = ((λ k. refl), tt)

compacted_by_on : (way : Method) (g : Public) (h : List Entry) (m : ℕ) → AllOn m (compacted_by way g h m)
compacted_by_on Plain g h m = tt
compacted_by_on Lattice g h m = source_on m (source h m)
compacted_by_on Parity g h m = linked_on m (basis (length g.shape.points) (links_of g h m))

above : (s m : ℕ) → s ≤ m → eqb s m ≡ false → suc s ≤ m
above s m a e = ⊎_elim (λ q. absurd (false≢true (sym e ∙ eq-eqb s m q))) (λ l. l) (split s m a)
  where
    split : (s m : ℕ) → s ≤ m → (s ≡ m) ⊎ (suc s ≤ m)
    split s m a = grind arith

-- what measures from one on leave of a measure
module _ (f : ℕ → List Entry) (each_on : (m : ℕ) → AllOn m (f m)) where
  on_before : (m s n : ℕ) → m < s → on m (flat_map f (count_from s n)) ≡ []
  on_before m s zero l = refl
  on_before m s (suc n) l = filter-append (is_on m) (f s) (flat_map f (count_from (suc s) n)) ∙ ap₂ (λ x y. x ++ y) (on_other s m (f s) (false_from_ne_true (eqb s m) (λ e. let q : s ≡ m = eqb-true s m e in absurd (omega arith))) (each_on s)) (on_before m (suc s) n (omega arith))

  on_within : (m s n : ℕ) → s ≤ m → m < s + n → on m (flat_map f (count_from s n)) ≡ f m
  on_within m s zero a b = absurd (omega arith)
  on_within m s (suc n) a b = filter-append (is_on m) (f s) (flat_map f (count_from (suc s) n)) ∙ tested (eqb s m) here (λ e. later e (on_within m (suc s) n (above s m a e) (omega arith)))
    where
      here : eqb s m ≡ true → on m (f s) ++ on m (flat_map f (count_from (suc s) n)) ≡ f m
      here e = let q : s ≡ m = eqb-true s m e in ap₂ (λ x y. x ++ y) (subst (λ z. on m (f z) ≡ f m) (sym q) (on_all m (f m) (each_on m))) (on_before m (suc s) n (omega arith)) ∙ append-nil (f m)

      later : eqb s m ≡ false → on m (flat_map f (count_from (suc s) n)) ≡ f m → on m (f s) ++ on m (flat_map f (count_from (suc s) n)) ≡ f m
      later e r = ap₂ (λ x y. x ++ y) (on_other s m (f s) e (each_on s)) r

-- ---- levels of a source are in range
pub lesser_in_range : (ds : List Dimension) (ls : List ℕ) (ps : List (Option Pick)) → fits ds ls ps ≡ true → are_levels ds (lesser_levels ls ps) ≡ true
lesser_in_range [] [] [] e = refl
lesser_in_range [] [] (p ∷ ps) e = absurd (false≢true e)
lesser_in_range [] (l ∷ ls) ps e = absurd (false≢true e)
lesser_in_range (d ∷ ds) [] ps e = absurd (false≢true e)
lesser_in_range (d ∷ ds) (l ∷ ls) [] e = absurd (false≢true e)
lesser_in_range (d ∷ ds) (l ∷ ls) (p ∷ ps) e = let a = and_parts (is_level d p l) (fits ds ls ps) e in and_from (leb (lesser l p) d.levels) (are_levels ds (lesser_levels ls ps)) (one p a.0) (lesser_in_range ds ls ps a.1)
  where
    one : (p : Option Pick) → is_level d p l ≡ true → leb (lesser l p) d.levels ≡ true
    one None e = e
    one (Some q) e = let a : l ≤ d.levels = leb-true l d.levels (and_parts (leb l d.levels) (ltb q.level d.levels) (and_parts (leb l d.levels && ltb q.level d.levels) (leb q.first q.last) (and_parts (leb l d.levels && ltb q.level d.levels && leb q.first q.last) _ e).0).0).0 in le-leb (lesser l (Some q)) d.levels (omega arith)

pub meet_in_range : (ds : List Dimension) (a b : List ℕ) → are_levels ds a ≡ true → are_levels ds b ≡ true → are_levels ds (meet a b) ≡ true
meet_in_range [] [] bs p q = refl
meet_in_range [] (a ∷ xs) bs p q = absurd (false≢true p)
meet_in_range (d ∷ ds) [] bs p q = absurd (false≢true p)
meet_in_range (d ∷ ds) (a ∷ xs) [] p q = absurd (false≢true q)
meet_in_range (d ∷ ds) (a ∷ xs) (b ∷ bs) p q =
    let x = and_parts (leb a d.levels) (are_levels ds xs) p in
    let y = and_parts (leb b d.levels) (are_levels ds bs) q in
    let l : a ≤ d.levels = leb-true a d.levels x.0 in
    and_from (leb (min a b) d.levels) (are_levels ds (meet xs bs)) (le-leb (min a b) d.levels (omega arith)) (meet_in_range ds xs bs x.1 y.1)

abbrev pub InRange : Public → Option (List ℕ) → Type 0
InRange g None = Unit {0}
InRange g (Some c) = are_levels g.dimensions c ≡ true

pub entry_in_range : (g : Public) (e : Entry) → is_allowed g e ≡ true → Each (λ c. are_levels g.dimensions c ≡ true) (levels_in e)
unfolding is_allowed grain
entry_in_range g (Asked r) a = (lesser_in_range g.dimensions r.group r.picks (fits_valid g r a), tt)
entry_in_range g (Source m c) a = ((and_parts (is_lattice (method g m)) (are_levels g.dimensions c) a).1, tt)
entry_in_range g (Linked m l) a = tt

narrow : Option (List ℕ) → List ℕ → Option (List ℕ)
narrow s c = Some (narrowed s c)

fold_in_range : (g : Public) (o : Option (List ℕ)) (es : List Entry) → AreAllowed g es → InRange g o → InRange g (fold narrow o (flat_map levels_in es))
unfolding narrow
fold_in_range g o [] a r = r
fold_in_range g o (e ∷ es) a r = go e (entry_in_range g e a.0) (λ s q. fold_in_range g s es a.1 q)
  where
    both : (o : Option (List ℕ)) (c : List ℕ) → InRange g o → are_levels g.dimensions c ≡ true → are_levels g.dimensions (narrowed o c) ≡ true
    both None c r q = q
    both (Some s) c r q = meet_in_range g.dimensions s c r q

    go : (e : Entry) → Each (λ c. are_levels g.dimensions c ≡ true) (levels_in e) → ((s : Option (List ℕ)) → InRange g s → InRange g (fold narrow s (flat_map levels_in es))) → InRange g (fold narrow o (levels_in e ++ flat_map levels_in es))
    go (Asked q) l again = again (Some (narrowed o (grain q))) (both o (grain q) r l.0)
    go (Source m c) l again = again (Some (narrowed o c)) (both o c r l.0)
    go (Linked m l) z again = again o r

pub source_in_range : (g : Public) (h : List Entry) (m : ℕ) → AreAllowed g h → InRange g (source h m)
unfolding source narrow
source_in_range g h m a = fold_in_range g None (on m h) (allowed_on g h m a) tt

-- ---- links of a history are in range and differ in a pair
abbrev Rising : List ℕ → Type 0
Rising [] = Unit {0}
Rising (x ∷ xs) = Each (λ y. x < y) xs × Rising xs

Each-from : {X : Type 0} (P : X → Type 0) (xs : List X) → ((x : X) → IsIn x xs → P x) → Each P xs
Each-from P [] h = tt
Each-from P (x ∷ xs) h = (h x (inl refl), Each-from P xs (λ y k. h y (inr k)))

rising_filter : (p : ℕ → Bool) (s n : ℕ) → Rising (filter p (count_from s n))
rising_filter p s zero = tt
rising_filter p s (suc n) = go (p s) (rising_filter p (suc s) n)
  where
    go : (b : Bool) → Rising (filter p (count_from (suc s) n)) → Rising (cond b (s ∷ filter p (count_from (suc s) n)) (filter p (count_from (suc s) n)))
    go true r = (Each-from (λ y. s < y) (filter p (count_from (suc s) n)) (λ y k. (IsIn-count_from y (suc s) n (IsIn-filter p y (count_from (suc s) n) k).1).0), r)
    go false r = r

linked_apart : (n : ℕ) (is : List ℕ) → Rising is → Each (λ i. i < n) is → (l : Link) → IsIn l (linked is) → is_link n l ≡ true
linked_apart n [] r b l k = absurd k
linked_apart n (i ∷ []) r b l (inl e) = subst (λ x. is_link n x ≡ true) e (lt-ltb i n b.0)
linked_apart n (i ∷ []) r b l (inr k) = absurd k
linked_apart n (i ∷ j ∷ is) r b l (inl e) = subst (λ x. is_link n x ≡ true) e (and_from (ltb i n && ltb j n) (not (eqb i j)) (and_from (ltb i n) (ltb j n) (lt-ltb i n b.0) (lt-ltb j n b.1.0)) (not_from_false (eqb i j) (false_from_ne_true (eqb i j) (λ q. let x : i ≡ j = eqb-true i j q in let y : i < j = r.0.0 in absurd (omega arith)))))
linked_apart n (i ∷ j ∷ is) r b l (inr k) = linked_apart n is r.1.1 b.1.1 l k

links_apart : (g : Public) (r : Request) (l : Link) → IsIn l (links g r) → is_link (length g.shape.points) l ≡ true
unfolding links
links_apart g r l h =
    let a = IsIn-flat_map (λ row. linked row.places) l (rows g r) h in
    let b = IsIn-map (row_at g r) a.0 (row_keys g r) a.1 in
    linked_apart (length g.shape.points) (filter (in_row g r b.0) (places g)) (rising_filter (in_row g r b.0) 0 (length g.shape.points))
    (Each-from (λ i. i < length g.shape.points) (filter (in_row g r b.0) (places g)) (λ i k. let c : i < 0 + length g.shape.points = (IsIn-count_from i 0 (length g.shape.points) (IsIn-filter (in_row g r b.0) i (places g) k).1).1 in omega arith))
    l (subst (λ row. IsIn l (linked row.places)) (sym b.2) a.2)

entry_apart : (g : Public) (e : Entry) (l : Link) → is_allowed g e ≡ true → IsIn l (links_in g e) → is_link (length g.shape.points) l ≡ true
unfolding is_allowed
entry_apart g (Asked r) l a k = links_apart g r l k
entry_apart g (Source m c) l a k = absurd k
entry_apart g (Linked m x) l a (inl e) = subst (λ z. is_link (length g.shape.points) z ≡ true) e (and_parts (is_parity (method g m)) (is_link (length g.shape.points) x) a).1
entry_apart g (Linked m x) l a (inr k) = absurd k

history_apart : (g : Public) (h : List Entry) (m : ℕ) (l : Link) → AreAllowed g h → IsIn l (links_of g h m) → is_link (length g.shape.points) l ≡ true
unfolding links_of
history_apart g h m l a k = let b = IsIn-flat_map (links_in g) l (on m h) k in entry_apart g b.0 l (Each-at (λ e. is_allowed g e ≡ true) b.0 (on m h) (allowed_on g h m a) b.1) b.2

-- ---- a basis is of the links, and no link of it follows from those before
unfoldable pub kept_more : ℕ → List Link → Link → List Link
kept_more n kept l = cond (follows n kept l) kept (kept ++ l ∷ [])

abbrev pub Fresh : ℕ → List Link → List Link → Type 0
Fresh n kept [] = Unit {0}
Fresh n kept (l ∷ ls) = (follows n kept l ≡ false) × Fresh n (kept ++ l ∷ []) ls

fresh_push : (n : ℕ) (kept ls : List Link) (l : Link) → Fresh n kept ls → follows n (kept ++ ls) l ≡ false → Fresh n kept (ls ++ l ∷ [])
fresh_push n kept [] l f e = (subst (λ x. follows n x l ≡ false) (append-nil kept) e, tt)
fresh_push n kept (x ∷ ls) l f e = (f.0, fresh_push n (kept ++ x ∷ []) ls l f.1 (subst (λ y. follows n y l ≡ false) (sym (append_assoc kept (x ∷ []) ls)) e))

basis_fresh_from : (n : ℕ) (kept ls : List Link) → Fresh n [] kept → Fresh n [] (fold (kept_more n) kept ls)
unfolding kept_more
basis_fresh_from n kept [] f = f
basis_fresh_from n kept (l ∷ ls) f = basis_fresh_from n (kept_more n kept l) ls (tested (follows n kept l)
    (λ e. subst (Fresh n []) (sym (ap (λ b. cond b kept (kept ++ l ∷ [])) e)) f)
    (λ e. subst (Fresh n []) (sym (ap (λ b. cond b kept (kept ++ l ∷ [])) e)) (fresh_push n [] kept l f e)))

basis_of_from : (n : ℕ) (kept ls : List Link) (l : Link) → IsIn l (fold (kept_more n) kept ls) → IsIn l kept ⊎ IsIn l ls
unfolding kept_more
basis_of_from n kept [] l k = inl k
basis_of_from n kept (x ∷ ls) l k = ⊎_elim (λ a. before (follows n kept x) a) (λ a. inr (inr a)) (basis_of_from n (kept_more n kept x) ls l k)
  where
    before : (b : Bool) → IsIn l (cond b kept (kept ++ x ∷ [])) → IsIn l kept ⊎ IsIn l (x ∷ ls)
    before true a = inl a
    before false a = ⊎_elim (λ z. inl z) last (IsIn-append l kept (x ∷ []) a)
      where
        last : IsIn l (x ∷ []) → IsIn l kept ⊎ IsIn l (x ∷ ls)
        last (inl e) = inr (inl e)
        last (inr z) = absurd z

pub basis_fresh : (n : ℕ) (ls : List Link) → Fresh n [] (basis n ls)
unfolding kept_more
basis_fresh n ls = basis_fresh_from n [] ls tt

basis_of : (n : ℕ) (ls : List Link) (l : Link) → IsIn l (basis n ls) → IsIn l ls
unfolding kept_more
basis_of n ls l k = ⊎_elim (λ a. absurd a) (λ a. a) (basis_of_from n [] ls l k)

-- ---- admissible
pub admissible_append : (g : Public) (c xs ys : List Entry) → AdmissibleFrom g c xs → AdmissibleFrom g (c ++ xs) ys → AdmissibleFrom g c (xs ++ ys)
admissible_append g c [] ys a b = subst (λ x. AdmissibleFrom g x ys) (append-nil c) b
admissible_append g c (x ∷ xs) ys a b = (a.0, a.1, admissible_append g (c ++ x ∷ []) xs ys a.2 (subst (λ z. AdmissibleFrom g z ys) (sym (append_assoc c (x ∷ []) xs)) b))

-- what nothing before is on
pub source_nothing : (c : List Entry) (m : ℕ) → on m c ≡ [] → source c m ≡ None
unfolding source
source_nothing c m e = ap (λ es. fold (λ s x. Some (narrowed s x)) None (flat_map levels_in es)) e

links_nothing : (g : Public) (c : List Entry) (m : ℕ) → on m c ≡ [] → links_of g c m ≡ []
unfolding links_of
links_nothing g c m e = ap (flat_map (links_in g)) e

brought : (g : Public) (m : ℕ) (ls : List Link) → flat_map (links_in g) (map (Linked m) ls) ≡ ls
brought g m [] = refl
brought g m (l ∷ ls) = ap (λ x. l ∷ x) (brought g m ls)

links_linked : (g : Public) (m : ℕ) (ls : List Link) → links_of g (map (Linked m) ls) m ≡ ls
unfolding links_of
links_linked g m ls = ap (flat_map (links_in g)) (on_all m (map (Linked m) ls) (linked_on m ls)) ∙ brought g m ls

links_after : (g : Public) (c : List Entry) (m : ℕ) (ls : List Link) → on m c ≡ [] → links_of g (c ++ map (Linked m) ls) m ≡ ls
links_after g c m ls e = links_of-append g c (map (Linked m) ls) m ∙ ap₂ (λ x y. x ++ y) (links_nothing g c m e) (links_linked g m ls)

map-push : (m : ℕ) (ls : List Link) (l : Link) → map (Linked m) (ls ++ l ∷ []) ≡ map (Linked m) ls ++ Linked m l ∷ []
map-push m [] l = refl
map-push m (x ∷ ls) l = ap (λ y. Linked m x ∷ y) (map-push m ls l)

links_taken : (g : Public) (h : List Entry) (m : ℕ) (l : Link) (kept : List Link) → links_of g h m ≡ kept → follows (length g.shape.points) kept l ≡ false → AllFree g m (kept ++ l ∷ []) → taken g h (Linked m l) ≡ Taken
unfolding taken
links_taken g h m l kept e f free =
    ap (λ ls. cond (follows (length g.shape.points) ls l) Passed (cond (is_none (fixed_by (suiting (length g.shape.points) (ls ++ l ∷ [])) (guarded g m))) Taken Refused)) e
    ∙ ap₂ (λ a o. cond a Passed (cond (is_none o) Taken Refused)) f (fails (λ i. not (has_plus (suiting (length g.shape.points) (kept ++ l ∷ [])) i)) (guarded g m) (λ i k. ap not (free i k)))

links_admissible : (g : Public) (c : List Entry) (m : ℕ) (kept ls : List Link) → method g m ≡ Parity → on m c ≡ [] → ((l : Link) → IsIn l ls → is_link (length g.shape.points) l ≡ true) → Fresh (length g.shape.points) kept ls → AllFree g m (kept ++ ls) → AdmissibleFrom g (c ++ map (Linked m) kept) (map (Linked m) ls)
unfolding is_allowed
links_admissible g c m kept [] way none apart fresh free = tt
links_admissible g c m kept (l ∷ ls) way none apart fresh free = (
  and_from (is_parity (method g m)) (is_link (length g.shape.points) l) (ap is_parity way) (apart l (inl refl)),
  links_taken g (c ++ map (Linked m) kept) m l kept (links_after g c m kept none) fresh.0 (λ i k. free_from_fewer (length g.shape.points) (kept ++ l ∷ []) ls i (free_all i k)),
  subst (λ x. AdmissibleFrom g x (map (Linked m) ls)) (ap (λ x. c ++ x) (map-push m kept l) ∙ sym (append_assoc c (map (Linked m) kept) (Linked m l ∷ [])))
      (links_admissible g c m (kept ++ l ∷ []) ls way none (λ x k. apart x (inr k)) fresh.1 free_all),
)
  where
    free_all : AllFree g m ((kept ++ l ∷ []) ++ ls)
    free_all = subst (AllFree g m) (sym (append_assoc kept (l ∷ []) ls)) free

source_taken : (g : Public) (c : List Entry) (m : ℕ) (s : List ℕ) → source c m ≡ None → ((t : Cell) → IsIn t (protected g m) → is_cut g s t ≡ true) → taken g c (Source m s) ≡ Taken
unfolding taken
source_taken g c m s e cuts =
    ap (λ o. cond (holds_grain o s) Passed (cond (is_none (uncut g (narrowed o s) m)) Taken Refused)) e
    ∙ ap (λ o. cond (is_none o) Taken Refused) (fails (λ t. not (is_cut g s t)) (protected g m) (λ t k. ap not (cuts t k)))

-- links that the same lists suit leave the same places free
free_alike : (g : Public) (m : ℕ) (ls ks : List Link) → ((xs : List ℤ) → SuitsAll (length g.shape.points) ks xs ↔ SuitsAll (length g.shape.points) ls xs) → AllFree g m ls → AllFree g m ks
free_alike g m ls ks same free i k = ap (λ s. has_plus s i) (suiting_alike (length g.shape.points) ls ks same) ∙ free i k

module _ (g : Public) (h : List Entry) (adm : IsAdmissible g h) where
  all : AreAllowed g h
  all = admissible_allowed g [] h adm

  measure_admissible : (c : List Entry) (m : ℕ) (way : Method) → method g m ≡ way → on m c ≡ [] → AdmissibleFrom g c (compacted_by way g h m)
  unfolding is_allowed
  measure_admissible c m Plain way none = tt
  measure_admissible c m Lattice way none = go (source h m) refl (source_in_range g h m all)
    where
      go : (o : Option (List ℕ)) → source h m ≡ o → InRange g o → AdmissibleFrom g c (source_entry m o)
      go None e r = tt
      go (Some s) e r = (and_from (is_lattice (method g m)) (are_levels g.dimensions s) (ap is_lattice way) r, source_taken g c m s (source_nothing c m none) (source_cuts g h m s way adm e), tt)
  measure_admissible c m Parity way none =
      subst (λ x. AdmissibleFrom g x (map (Linked m) (basis (length g.shape.points) (links_of g h m)))) (append-nil c)
      (links_admissible g c m [] (basis (length g.shape.points) (links_of g h m)) way none
      (λ l k. history_apart g h m l all (basis_of (length g.shape.points) (links_of g h m) l k))
      (basis_fresh (length g.shape.points) (links_of g h m))
      (free_alike g m (links_of g h m) (basis (length g.shape.points) (links_of g h m)) (basis_suits (length g.shape.points) (links_of g h m)) (history_free g h m way adm)))

  each_on : (m : ℕ) → AllOn m (compacted_on g h m)
  each_on m = compacted_by_on (method g m) g h m

  from_admissible : (c : List Entry) (s n : ℕ) → ((m : ℕ) → s ≤ m → on m c ≡ []) → AdmissibleFrom g c (flat_map (compacted_on g h) (count_from s n))
  from_admissible c s zero none = tt
  from_admissible c s (suc n) none = admissible_append g c (compacted_on g h s) (flat_map (compacted_on g h) (count_from (suc s) n))
      (measure_admissible c s (method g s) refl (none s (omega arith)))
      (from_admissible (c ++ compacted_on g h s) (suc s) n (λ m l. filter-append (is_on m) c (compacted_on g h s) ∙ ap₂ (λ x y. x ++ y) (none m (omega arith)) (on_other s m (compacted_on g h s) (false_from_ne_true (eqb s m) (λ e. let q : s ≡ m = eqb-true s m e in absurd (omega arith))) (each_on s))))

  pub compacted_admissible : IsAdmissible g (compacted g h)
  compacted_admissible = from_admissible [] 0 (length g.policy.methods) (λ m l. refl)

  -- what is compacted on a measure that isn't open
  compacted_there : (m : ℕ) → (method g m ≡ Plain → ⊥) → on m (compacted g h) ≡ compacted_on g h m
  compacted_there m way = let l : m < length g.policy.methods = in_list g.policy.methods m way in on_within (compacted_on g h) each_on m 0 (length g.policy.methods) (omega arith) (omega arith)

  pub compacted_alike : HoldTheSame g h (compacted g h)
  unfolding source links_of
  compacted_alike = record { sources = λ m way. source_there m way; links = λ m way. links_there m way }
    where
      source_there : (m : ℕ) → method g m ≡ Lattice → source (compacted g h) m ≡ source h m
      source_there m way = ap (λ es. fold (λ s c. Some (narrowed s c)) None (flat_map levels_in es)) (compacted_there m (λ p. absurd (cc)) ∙ ap (λ k. compacted_by k g h m) way) ∙ back (source h m)
        where
          back : (o : Option (List ℕ)) → fold (λ s c. Some (narrowed s c)) None (flat_map levels_in (source_entry m o)) ≡ o
          back None = refl
          back (Some c) = refl

      links_there : (m : ℕ) → method g m ≡ Parity → (xs : List ℤ) → SuitsAll (length g.shape.points) (links_of g (compacted g h) m) xs ↔ SuitsAll (length g.shape.points) (links_of g h m) xs
      links_there m way xs = subst (λ ls. SuitsAll (length g.shape.points) ls xs ↔ SuitsAll (length g.shape.points) (links_of g h m) xs) (sym (ap (flat_map (links_in g)) (compacted_there m (λ p. absurd (cc)) ∙ ap (λ k. compacted_by k g h m) way) ∙ brought g m (basis (length g.shape.points) (links_of g h m)))) (basis_suits (length g.shape.points) (links_of g h m) xs)

  -- no request is left
  none_linked : (m : ℕ) (ls : List Link) → requests (map (Linked m) ls) ≡ []
  none_linked m [] = refl
  none_linked m (l ∷ ls) = none_linked m ls

  none_source : (m : ℕ) (o : Option (List ℕ)) → requests (source_entry m o) ≡ []
  none_source m None = refl
  none_source m (Some c) = refl

  none_by : (way : Method) (m : ℕ) → requests (compacted_by way g h m) ≡ []
  none_by Plain m = refl
  none_by Lattice m = none_source m (source h m)
  none_by Parity m = none_linked m (basis (length g.shape.points) (links_of g h m))

  none_from : (s n : ℕ) → requests (flat_map (compacted_on g h) (count_from s n)) ≡ []
  none_from s zero = refl
  none_from s (suc n) = requests-append (compacted_on g h s) (flat_map (compacted_on g h) (count_from (suc s) n)) ∙ ap₂ (λ x y. x ++ y) (none_by (method g s) s) (none_from (suc s) n)

pub compacted_stands : CompactedStands
compacted_stands w h ok adm = record {
  admissible = compacted_admissible w.shown h adm;
  alike = compacted_alike w.shown h adm;
  no_requests = none_from w.shown h adm 0 (length w.shown.policy.methods);
  same_changes = λ m t k. changes_alike w h (compacted w.shown h) m t ok adm (admissible_allowed w.shown [] (compacted w.shown h) (compacted_admissible w.shown h adm)) (compacted_alike w.shown h adm) k;
}

pub compacted_runs_alike : CompactedRunsAlike
compacted_runs_alike w h asks ok adm none = alike_run_alike w h (compacted w.shown h) asks ok adm (compacted_admissible w.shown h adm) (compacted_alike w.shown h adm) few none
  where
    few : length (requests (compacted w.shown h)) ≤ length (requests h)
    few = let e : length (requests (compacted w.shown h)) ≡ 0 = ap length (none_from w.shown h adm 0 (length w.shown.policy.methods)) in omega arith

-- what holds the same holds all
alike_more : (g : Public) (h k : List Entry) → HoldTheSame g h k → HoldsMore g h k
alike_more g h k alike = record {
  sources = λ m s way q. (s, alike.sources m way ∙ q, is_finer_refl s);
  links = λ m xs way s. (alike.links m way xs).0 s;
}

pub earlier_lives_stay_open : EarlierLivesStayOpen
earlier_lives_stay_open w h asks later m t ok adm is_in =
    let g : Public = w.shown in
    let first_end : List Entry = end by_rules g h asks in
    let a : IsAdmissible g first_end = stays_admissible g h asks adm in
    let c : List Entry = compacted g first_end in
    let b : IsAdmissible g c = compacted_admissible g first_end a in
    let last : IsAdmissible g (end by_rules g c later) = stays_admissible g c later b in
    changes_of_more w h (end by_rules g c later) asks m t ok adm last
    (more_trans g first_end c (end by_rules g c later) (alike_more g first_end c (compacted_alike g first_end a)) (extended g c (end by_rules g c later) (admissible_allowed g [] (end by_rules g c later) last) (end_grows g c later)))
    is_in

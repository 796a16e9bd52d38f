-- Two worlds on a parity measure, by links.
use Rattle.std.specs.List.{list_all}
use Rattle.std.specs.Ordering.{int_eq}
use Rattle.std.proofs.Common.{◌≡◌, ◌-◌, unwrap_or, ℕ, zero, suc, ◌+◌, ◌*◌, ◌<◌, ◌⊎◌, inl, inr, Bool, true, false, cond, not, ◌&&◌, List, [], ◌∷◌, ◌++◌, length, map, filter, flat_map, take, get_or, Option, Some, None, is_some, is_none, ℤ, pos, negsuc, ◌+ℤ◌, refl, sym, ap, ap₂, ◌∙◌, subst, arith, eqb, leb, ltb, ⊎_elim, append_assoc, append-nil}
use Rattle.std.proofs.lemmas.Bool.{false≢true, and_parts, and_from, not-false, eq-eqb, eqb-true, or_cases, ltb-true, lt-ltb}
use Rattle.std.proofs.lemmas.Bool.Decides.{Decides-int_eq}
use Rattle.std.proofs.lemmas.Int.{ints}
use Rattle.cube_model.specs.declared.cell.Cell.{Cell}
use Rattle.cube_model.specs.declared.entry.Entry.{Entry}
use Rattle.cube_model.specs.declared.entry.Entry.TheVariants.{Asked, Source, Linked}
use Rattle.cube_model.specs.declared.entry.Taken.TheVariants.{Taken, Passed, Refused}
use Rattle.cube_model.specs.declared.link.Link.{Link}
use Rattle.cube_model.specs.declared.link.Link.TheVariants.{Pair, Single}
use Rattle.cube_model.specs.declared.policy.Method.TheVariants.{Parity}
use Rattle.cube_model.specs.declared.request.Request.{Request}
use Rattle.cube_model.specs.declared.verdict.Verdict.TheVariants.{Answer, Full, SourceWould}
use Rattle.cube_model.specs.Cubes.{Public, World, IsWorld, Dimension, up, before, core, places, point, ancestors, key_at, covers, covered, Each, IsIn, IsPoint, IsIncreasing, count_from}
use Rattle.cube_model.specs.Requests.{in_row, rows, row_keys, row_at, total, asks}
use Rattle.cube_model.specs.Protection.{method, core_cell, guarded, is_guarded, objects_of, protected_by, protected, first, listed, is_parity}
use Rattle.cube_model.specs.Links.{linked, links, suits_link, suits, small_lists, suiting, has_plus, is_free, follows, pairs_among, reached}
use Rattle.cube_model.specs.Entries.{is_allowed, requests, is_on, on, links_in, is_link}
use Rattle.cube_model.specs.Verdicts.{fixes, links_of, most_held, fixed_by, first_stop, stopped_at, unless_stopped, judged, taken, AdmissibleFrom, IsAdmissible}
use Rattle.cube_model.specs.Twins.{with_first, by_walks, walks, change_by, changes}
use Rattle.cube_model.specs.Runs.{entered}
use Rattle.cube_model.specs.LinkLaws.{SuitsAll}
use Rattle.cube_model.proofs.Growth.{Leaves}
use Rattle.cube_model.proofs.Histories.{links_of-append, AreAllowed, admissible_allowed, Each-at, allowed_on, taken_request, verdict_on}
use Rattle.cube_model.proofs.Holding.{HeldBy}
use Rattle.cube_model.proofs.Members.{tested, IsIn-filter, filter_has, IsIn-map, append_right, IsIn-flat_map, flat_map_has, count_from_has, find_none, first_of, same_eq, same_refl, map_has}
use Rattle.cube_model.proofs.Sources.{place_below, Each-get_or, total_filter}
use Rattle.cube_model.proofs.Sums.{length-count_from, gather, gather_alike, at_one, met}
use Rattle.cube_model.proofs.Walks.{ArePlaces, any_from, any_has, walks_balance, unreached, start_even}

-- a function suits a link
abbrev pub Suits : (ℕ → ℤ) → Link → Type 0
Suits f (Pair i j) = f i +ℤ f j ≡ pos 0
Suits f (Single i) = f i ≡ pos 0

-- sums over a row are sums over its links
pub gather_linked : (f : ℕ → ℤ) (is : List ℕ) → ((l : Link) → IsIn l (linked is) → Suits f l) → gather f is ≡ pos 0
gather_linked f [] h = refl
gather_linked f (i ∷ []) h = let a : f i ≡ pos 0 = h (Single i) (inl refl) in omega (arith, ints)
gather_linked f (i ∷ j ∷ is) h =
    let a : f i +ℤ f j ≡ pos 0 = h (Pair i j) (inl refl) in
    let b : gather f is ≡ pos 0 = gather_linked f is (λ l k. h l (inr k)) in
    omega (arith, ints)

-- a link of places
abbrev pub IsOf : (ℕ → Type 0) → Link → Type 0
IsOf P (Pair i j) = P i × P j
IsOf P (Single i) = P i

linked_in : (is : List ℕ) (P : ℕ → Type 0) → ((i : ℕ) → IsIn i is → P i) → (l : Link) → IsIn l (linked is) → IsOf P l
linked_in [] P h l k = absurd k
linked_in (i ∷ []) P h l (inl q) = subst (IsOf P) q (h i (inl refl))
linked_in (i ∷ []) P h l (inr k) = absurd k
linked_in (i ∷ j ∷ is) P h l (inl q) = subst (IsOf P) q (h i (inl refl), h j (inr (inl refl)))
linked_in (i ∷ j ∷ is) P h l (inr k) = linked_in is P (λ x m. h x (inr (inr m))) l k

pub links_places : (g : Public) (r : Request) (l : Link) → IsIn l (links g r) → IsOf (λ i. i < length g.shape.points) l
unfolding links
links_places g r l h =
    let a = IsIn-flat_map (λ row. linked row.places) l (rows g r) h in
    let b = IsIn-map (row_at g r) a.0 (row_keys g r) a.1 in
    linked_in (filter (in_row g r b.0) (places g)) (λ i. i < length g.shape.points) (λ i k. place_below g i (IsIn-filter (in_row g r b.0) i (places g) k).1) l (subst (λ row. IsIn l (linked row.places)) (sym b.2) a.2)

-- a link in range is one of places, and differs in a pair
pub link_places : (n : ℕ) (l : Link) → is_link n l ≡ true → IsOf (λ i. i < n) l
link_places n (Pair i j) e = let a = and_parts (ltb i n) (ltb j n) (and_parts (ltb i n && ltb j n) (not (eqb i j)) e).0 in (ltb-true i n a.0, ltb-true j n a.1)
link_places n (Single i) e = ltb-true i n e

pub entry_places : (g : Public) (e : Entry) (l : Link) → is_allowed g e ≡ true → IsIn l (links_in g e) → IsOf (λ i. i < length g.shape.points) l
unfolding is_allowed
entry_places g (Asked r) l a k = links_places g r l k
entry_places g (Source m c) l a k = absurd k
entry_places g (Linked m x) l a (inl q) = subst (IsOf (λ i. i < length g.shape.points)) q (link_places (length g.shape.points) x (and_parts (is_parity (method g m)) (is_link (length g.shape.points) x) a).1)
entry_places g (Linked m x) l a (inr k) = absurd k

pub links_of_places : (g : Public) (h : List Entry) (m : ℕ) (l : Link) → AreAllowed g h → IsIn l (links_of g h m) → IsOf (λ i. i < length g.shape.points) l
unfolding links_of
links_of_places g h m l a k = let b = IsIn-flat_map (links_in g) l (on m h) k in entry_places g b.0 l (Each-at (λ e. is_allowed g e ≡ true) b.0 (on m h) (allowed_on g h m a) b.1) b.2

-- the links of a request of the history are among the history's
pub links_of_has : (g : Public) (h : List Entry) (m : ℕ) (r : Request) (l : Link) → IsIn (Asked r) h → asks m r ≡ true → IsIn l (links g r) → IsIn l (links_of g h m)
unfolding links_of
links_of_has g h m r l k q p = flat_map_has (links_in g) (Asked r) l (on m h) (filter_has (is_on m) (Asked r) h q k) p

-- pairs among links
pub pair_from : (ls : List Link) (e : ℕ × ℕ) → IsIn e (pairs_among ls) → IsIn (Pair e.0 e.1) ls
pair_from [] e h = absurd h
pair_from (Pair i j ∷ ls) e (inl q) = inl (ap (λ p. Pair p.0 p.1) q)
pair_from (Pair i j ∷ ls) e (inr k) = inr (pair_from ls e k)
pair_from (Single i ∷ ls) e h = inr (pair_from ls e h)

pub pair_has : (ls : List Link) (i j : ℕ) → IsIn (Pair i j) ls → IsIn (i, j) (pairs_among ls)
pair_has [] i j h = absurd h
pair_has (Pair a b ∷ ls) i j (inl q) = inl (ap ends q)
  where
    ends : Link → ℕ × ℕ
    ends (Pair x y) = (x, y)
    ends (Single x) = (x, x)
pair_has (Pair a b ∷ ls) i j (inr k) = inr (pair_has ls i j k)
pair_has (Single a ∷ ls) i j (inl q) = absurd (cc)
pair_has (Single a ∷ ls) i j (inr k) = pair_has ls i j k

-- lists and functions that suit
pub suits_from : (xs : List ℤ) (l : Link) → suits_link xs l ≡ true → Suits (λ i. get_or xs i (pos 0)) l
suits_from xs (Pair i j) e = (Decides-int_eq (get_or xs i (pos 0) +ℤ get_or xs j (pos 0)) (pos 0)).0 e
suits_from xs (Single i) e = (Decides-int_eq (get_or xs i (pos 0)) (pos 0)).0 e

pub suits_to : (xs : List ℤ) (l : Link) → Suits (λ i. get_or xs i (pos 0)) l → suits_link xs l ≡ true
suits_to xs (Pair i j) e = (Decides-int_eq (get_or xs i (pos 0) +ℤ get_or xs j (pos 0)) (pos 0)).1 e
suits_to xs (Single i) e = (Decides-int_eq (get_or xs i (pos 0)) (pos 0)).1 e

pub all_at : {X : Type 0} (p : X → Bool) (x : X) (xs : List X) → list_all p xs ≡ true → IsIn x xs → p x ≡ true
all_at p x [] e h = absurd h
all_at p x (y ∷ ys) e (inl q) = ap p (sym q) ∙ (and_parts (p y) (list_all p ys) e).0
all_at p x (y ∷ ys) e (inr k) = all_at p x ys (and_parts (p y) (list_all p ys) e).1 k

pub all_from : {X : Type 0} (p : X → Bool) (xs : List X) → ((x : X) → IsIn x xs → p x ≡ true) → list_all p xs ≡ true
all_from p [] h = refl
all_from p (x ∷ xs) h = and_from (p x) (list_all p xs) (h x (inl refl)) (all_from p xs (λ y k. h y (inr k)))

-- each list of small entries is among the small lists
abbrev pub IsSmall : ℤ → Type 0
IsSmall x = (x ≡ negsuc 0) ⊎ ((x ≡ pos 0) ⊎ (x ≡ pos 1))

pub small_has : (f : ℕ → ℤ) (s n : ℕ) → ((i : ℕ) → IsSmall (f i)) → IsIn (map f (count_from s n)) (small_lists n)
small_has f s zero h = inl refl
small_has f s (suc n) h = flat_map_has (λ xs. (negsuc 0 ∷ xs) ∷ (pos 0 ∷ xs) ∷ (pos 1 ∷ xs) ∷ []) (map f (count_from (suc s) n)) (f s ∷ map f (count_from (suc s) n)) (small_lists n) (small_has f (suc s) n h) (go (f s) (map f (count_from (suc s) n)) (h s))
  where
    go : (x : ℤ) (xs : List ℤ) → IsSmall x → IsIn (x ∷ xs) ((negsuc 0 ∷ xs) ∷ (pos 0 ∷ xs) ∷ (pos 1 ∷ xs) ∷ [])
    go x xs (inl e) = inl (ap (λ y. y ∷ xs) (sym e))
    go x xs (inr (inl e)) = inr (inl (ap (λ y. y ∷ xs) (sym e)))
    go x xs (inr (inr e)) = inr (inr (inl (ap (λ y. y ∷ xs) (sym e))))

-- a link that follows is suited by what suits
index_map : (f : ℕ → ℤ) (s n k : ℕ) → k < n → get_or (map f (count_from s n)) k (pos 0) ≡ f (s + k)
index_map f s zero k h = absurd (omega arith)
index_map f s (suc n) zero h = ap f (omega arith)
index_map f s (suc n) (suc k) h = index_map f (suc s) n k (omega arith) ∙ ap f (omega arith)

pub at_place : (f : ℕ → ℤ) (n i : ℕ) → i < n → get_or (map f (count_from 0 n)) i (pos 0) ≡ f i
at_place f n i l = index_map f 0 n i l ∙ ap f (omega arith)

pub list_suits : (f : ℕ → ℤ) (n : ℕ) (l : Link) → IsOf (λ i. i < n) l → Suits f l → Suits (λ i. get_or (map f (count_from 0 n)) i (pos 0)) l
list_suits f n (Pair i j) b s = ap₂ (λ x y. x +ℤ y) (at_place f n i b.0) (at_place f n j b.1) ∙ s
list_suits f n (Single i) b s = at_place f n i b ∙ s

pub suits_list : (f : ℕ → ℤ) (n : ℕ) (l : Link) → IsOf (λ i. i < n) l → Suits (λ i. get_or (map f (count_from 0 n)) i (pos 0)) l → Suits f l
suits_list f n (Pair i j) b s = ap₂ (λ x y. x +ℤ y) (sym (at_place f n i b.0)) (sym (at_place f n j b.1)) ∙ s
suits_list f n (Single i) b s = sym (at_place f n i b) ∙ s

pub in_suiting : (f : ℕ → ℤ) (n : ℕ) (ls : List Link) → ((i : ℕ) → IsSmall (f i)) → ((l : Link) → IsIn l ls → IsOf (λ i. i < n) l) → ((l : Link) → IsIn l ls → Suits f l) → IsIn (map f (count_from 0 n)) (suiting n ls)
unfolding suiting
in_suiting f n ls small b s = filter_has (λ xs. suits xs ls) (map f (count_from 0 n)) (small_lists n)
    (all_from (suits_link (map f (count_from 0 n))) ls (λ l k. suits_to (map f (count_from 0 n)) l (list_suits f n l (b l k) (s l k))))
    (small_has f 0 n small)

pub suits_what_follows : (f : ℕ → ℤ) (n : ℕ) (ls : List Link) (l : Link) → ((i : ℕ) → IsSmall (f i)) → ((k : Link) → IsIn k ls → IsOf (λ i. i < n) k) → ((k : Link) → IsIn k ls → Suits f k) → IsOf (λ i. i < n) l → follows n ls l ≡ true → Suits f l
suits_what_follows f n ls l small b s bl e =
    suits_list f n l bl (suits_from (map f (count_from 0 n)) l (all_at (λ xs. suits_link xs l) (map f (count_from 0 n)) (suiting n ls) e (in_suiting f n ls small b s)))

-- a function that suits, as a list
as_function : (xs : List ℤ) (l : Link) → Rattle.cube_model.specs.LinkLaws.Suits xs l → Suits (λ i. get_or xs i (pos 0)) l
as_function xs (Pair i j) s = s
as_function xs (Single i) s = s

as_list : (xs : List ℤ) (l : Link) → Suits (λ i. get_or xs i (pos 0)) l → Rattle.cube_model.specs.LinkLaws.Suits xs l
as_list xs (Pair i j) s = s
as_list xs (Single i) s = s

map_suits : (f : ℕ → ℤ) (n : ℕ) (ls : List Link) → ((i : ℕ) → IsSmall (f i)) → ((l : Link) → IsIn l ls → IsOf (λ i. i < n) l) → ((l : Link) → IsIn l ls → Suits f l) → SuitsAll n ls (map f (count_from 0 n))
map_suits f n ls small b s = record {
  long = length-map (count_from 0 n) ∙ length-count_from 0 n;
  small = each_small (count_from 0 n);
  all = λ l k. as_list (map f (count_from 0 n)) l (list_suits f n l (b l k) (s l k));
}
  where
    length-map : (xs : List ℕ) → length (map f xs) ≡ length xs
    length-map [] = refl
    length-map (x ∷ xs) = ap suc (length-map xs)

    each_small : (xs : List ℕ) → Each IsSmall (map f xs)
    each_small [] = tt
    each_small (x ∷ xs) = (small x, each_small xs)

-- a link that fixes a place is another verdict than the rest
pub no_answer_fixes : (k : ℕ) (l : Link) (i : ℕ) (fresh : Bool) → Answer fresh ≡ fixes k l i → ⊥
no_answer_fixes k (Pair x y) i fresh e = cc
no_answer_fixes k (Single x) i fresh e = cc

pub no_full_fixes : (k : ℕ) (l : Link) (i held : ℕ) → Full held ≡ fixes k l i → ⊥
no_full_fixes k (Pair x y) i held e = cc
no_full_fixes k (Single x) i held e = cc

pub no_source_fixes : (k : ℕ) (l : Link) (i : ℕ) (c : List ℕ) (t : Cell) → SourceWould c t ≡ fixes k l i → ⊥
no_source_fixes k (Pair x y) i c t e = cc
no_source_fixes k (Single x) i c t e = cc

-- what a fresh or another answer says
pub parity_answer : (g : Public) (h : List Entry) (r : Request) (m : ℕ) (fresh : Bool) → judged Parity g h r m ≡ Answer fresh → (list_all (follows (length g.shape.points) (links_of g h m)) (links g r) ≡ true) × (fresh ≡ false) ⊎ (first_stop (length g.shape.points) (guarded g m) (links_of g h m) (links g r) ≡ None) × (fresh ≡ true)
parity_answer g h r m fresh e = go (list_all (follows (length g.shape.points) (links_of g h m)) (links g r)) (leb most_held (length (requests h))) (first_stop (length g.shape.points) (guarded g m) (links_of g h m) (links g r)) e
  where
    go : (a b : Bool) (o : Option ℕ) → cond a (Answer false) (cond b (Full (length (requests h))) (unless_stopped (stopped_at (length g.shape.points) (guarded g m) (links_of g h m) (links g r)) o)) ≡ Answer fresh → (a ≡ true) × (fresh ≡ false) ⊎ (o ≡ None) × (fresh ≡ true)
    go true b o e = inl (refl, cc)
    go false true o e = absurd (cc)
    go false false (Some k) e = absurd (no_answer_fixes k (get_or (links g r) (k - 1) (Single 0)) (unwrap_or (fixed_by (suiting (length g.shape.points) (links_of g h m ++ take k (links g r))) (guarded g m)) 0) fresh (sym e))
    go false false None e = inr (refl, cc)

-- each guarded place is free from the links
abbrev pub AllFree : Public → ℕ → List Link → Type 0
AllFree g m ls = (i : ℕ) → IsIn i (guarded g m) → is_free (length g.shape.points) ls i ≡ true

pub guarded_below : (g : Public) (m i : ℕ) → IsIn i (guarded g m) → i < length g.shape.points
guarded_below g m i h = place_below g i (IsIn-filter (is_guarded g (objects_of g m)) i (places g) h).1

take_length : {X : Type 0} (xs : List X) → take (length xs) xs ≡ xs
take_length [] = refl
take_length (x ∷ xs) = ap (λ ys. x ∷ ys) (take_length xs)

none_of : {X : Type 0} (o : Option X) → is_some o ≡ false → o ≡ None
none_of None e = refl
none_of (Some x) e = absurd (false≢true (sym e))

pub one_more : (g : Public) (m : ℕ) (kept others : List Link) → AllFree g m kept → first_stop (length g.shape.points) (guarded g m) kept others ≡ None → AllFree g m (kept ++ others)
one_more g m kept [] f e i k = subst (λ ls. is_free (length g.shape.points) ls i ≡ true) (sym (append-nil kept)) (f i k)
one_more g m kept (l ∷ ls) f e i k =
    ap (λ x. is_free (length g.shape.points) (kept ++ x) i) (sym (take_length (l ∷ ls)))
    ∙ not-false (is_free (length g.shape.points) (kept ++ take (length (l ∷ ls)) (l ∷ ls)) i) (find_none (λ j. not (has_plus (suiting (length g.shape.points) (kept ++ take (length (l ∷ ls)) (l ∷ ls))) j)) i (guarded g m)
    (none_of (fixed_by (suiting (length g.shape.points) (kept ++ take (length (l ∷ ls)) (l ∷ ls))) (guarded g m)) (find_none (λ n. is_some (fixed_by (suiting (length g.shape.points) (kept ++ take n (l ∷ ls))) (guarded g m))) (length (l ∷ ls)) (count_from 1 (length (l ∷ ls))) e (count_from_has (length (l ∷ ls)) 1 (length (l ∷ ls)) (omega arith) (omega arith)))) k)

small_one : (i p : ℕ) → IsSmall (at_one i (pos 1) p)
small_one i p = go (eqb p i)
  where
    go : (b : Bool) → IsSmall (cond b (pos 1) (pos 0))
    go true = inr (inr refl)
    go false = inr (inl refl)

nothing_fixed : (g : Public) (m : ℕ) → AllFree g m []
nothing_fixed g m i k =
    any_has (λ xs. int_eq (get_or xs i (pos 0)) (pos 1)) (map (at_one i (pos 1)) (count_from 0 (length g.shape.points))) (suiting (length g.shape.points) [])
    (in_suiting (at_one i (pos 1)) (length g.shape.points) [] (small_one i) (λ l z. absurd z) (λ l z. absurd z))
    ((Decides-int_eq _ (pos 1)).1 (at_place (at_one i (pos 1)) (length g.shape.points) i (guarded_below g m i k) ∙ ap (λ b. cond b (pos 1) (pos 0)) (eq-eqb i i refl)))

pub links_of-one : (g : Public) (e : Entry) (m : ℕ) → is_on m e ≡ true → links_of g (e ∷ []) m ≡ links_in g e
unfolding links_of
links_of-one g e m q = ap (λ b. flat_map (links_in g) (cond b (e ∷ []) [])) q ∙ append-nil (links_in g e)

pub links_of-none : (g : Public) (e : Entry) (m : ℕ) → is_on m e ≡ false → links_of g (e ∷ []) m ≡ []
unfolding links_of
links_of-none g e m q = ap (λ b. flat_map (links_in g) (cond b (e ∷ []) [])) q

-- a taken link leaves each guarded place free
pub taken_link : (g : Public) (h : List Entry) (m : ℕ) (l : Link) → taken g h (Linked m l) ≡ Taken → (follows (length g.shape.points) (links_of g h m) l ≡ false) × AllFree g m (links_of g h m ++ l ∷ [])
unfolding taken
taken_link g h m l e = go (follows (length g.shape.points) (links_of g h m) l) (fixed_by (suiting (length g.shape.points) (links_of g h m ++ l ∷ [])) (guarded g m)) refl e
  where
    go : (a : Bool) (o : Option ℕ) → fixed_by (suiting (length g.shape.points) (links_of g h m ++ l ∷ [])) (guarded g m) ≡ o → cond a Passed (cond (is_none o) Taken Refused) ≡ Taken → (a ≡ false) × AllFree g m (links_of g h m ++ l ∷ [])
    go true o q e = absurd (cc)
    go false None q e = (refl, λ i k. not-false (is_free (length g.shape.points) (links_of g h m ++ l ∷ []) i) (find_none (λ j. not (has_plus (suiting (length g.shape.points) (links_of g h m ++ l ∷ [])) j)) i (guarded g m) q k))
    go false (Some i) q e = absurd (cc)

free_from : (g : Public) (h es : List Entry) (m : ℕ) → method g m ≡ Parity → AdmissibleFrom g h es → AllFree g m (links_of g h m) → AllFree g m (links_of g (h ++ es) m)
free_from g h [] m way a c = subst (λ k. AllFree g m (links_of g k m)) (sym (append-nil h)) c
free_from g h (e ∷ es) m way a c =
    subst (λ k. AllFree g m (links_of g k m)) (append_assoc h (e ∷ []) es)
    (free_from g (h ++ e ∷ []) es m way a.2 (subst (AllFree g m) (sym (links_of-append g h (e ∷ []) m)) (tested (is_on m e) (on_it e a.1) off_it)))
  where
    skip : (ls : List Link) → ls ≡ [] → AllFree g m (links_of g h m ++ ls)
    skip ls q = subst (λ x. AllFree g m (links_of g h m ++ x)) (sym q) (subst (AllFree g m) (sym (append-nil (links_of g h m))) c)

    on_it : (e : Entry) → taken g h e ≡ Taken → is_on m e ≡ true → AllFree g m (links_of g h m ++ links_of g (e ∷ []) m)
    on_it (Asked r) t q = subst (λ ls. AllFree g m (links_of g h m ++ ls)) (sym (links_of-one g (Asked r) m q)) (⊎_elim
        (λ p. absurd (false≢true (sym p.1)))
        (λ p. one_more g m (links_of g h m) (links g r) c p.0)
        (parity_answer g h r m true (sym (verdict_on g h r m Parity way q) ∙ taken_request g h r t)))
    on_it (Source k s) t q = skip (links_of g (Source k s ∷ []) m) (links_of-one g (Source k s) m q)
    on_it (Linked k l) t q =
        let km : k ≡ m = eqb-true k m q in
        subst (λ n. AllFree g m (links_of g h m ++ links_of g (Linked n l ∷ []) m)) (sym km)
        (subst (λ ls. AllFree g m (links_of g h m ++ ls)) (sym (links_of-one g (Linked m l) m (eq-eqb m m refl)))
        (taken_link g h m l (subst (λ n. taken g h (Linked n l) ≡ Taken) km t)).1)

    off_it : is_on m e ≡ false → AllFree g m (links_of g h m ++ links_of g (e ∷ []) m)
    off_it q = skip (links_of g (e ∷ []) m) (links_of-none g e m q)

-- under an admissible history each guarded place is free from its links
pub history_free : (g : Public) (h : List Entry) (m : ℕ) → method g m ≡ Parity → IsAdmissible g h → AllFree g m (links_of g h m)
unfolding links_of
history_free g h m way a = free_from g [] h m way a (nothing_fixed g m)

-- a list with +1 at the place that suits the links
pub record Freeing (ls : List Link) (i : ℕ) : Type 0 where
  pub sign : ℕ → ℤ
  pub suiting_all : (l : Link) → IsIn l ls → Suits sign l
  pub plus : sign i ≡ pos 1

pub freeing : (n : ℕ) (ls : List Link) (i : ℕ) → is_free n ls i ≡ true → Freeing ls i
unfolding suiting
freeing n ls i e =
    let a = any_from (λ xs. int_eq (get_or xs i (pos 0)) (pos 1)) (suiting n ls) e in
    let b = IsIn-filter (λ xs. suits xs ls) a.0 (small_lists n) a.1 in
    record {
      sign = λ k. get_or a.0 k (pos 0);
      suiting_all = λ l k. suits_from a.0 l (all_at (suits_link a.0) l ls b.0 k);
      plus = (Decides-int_eq (get_or a.0 i (pos 0)) (pos 1)).0 a.2;
    }

-- points are told apart
before_not_itself : (x : List ℕ) → before x x ≡ true → ⊥
before_not_itself [] e = false≢true e
before_not_itself (x ∷ xs) e = ⊎_elim
    (λ a. let l : x < x = ltb-true x x a in omega arith)
    (λ a. before_not_itself xs (and_parts (eqb x x) (before xs xs) a).1)
    (or_cases (ltb x x) (eqb x x && before xs xs) e)

all_get_or : {X : Type 0} (p : X → Bool) (xs : List X) (i : ℕ) (d : X) → list_all p xs ≡ true → i < length xs → p (get_or xs i d) ≡ true
all_get_or p [] i d e l = absurd (omega arith)
all_get_or p (x ∷ xs) zero d e l = (and_parts (p x) (list_all p xs) e).0
all_get_or p (x ∷ xs) (suc i) d e l = all_get_or p xs i d (and_parts (p x) (list_all p xs) e).1 (omega arith)

increasing_apart : (ps : List (List ℕ)) (i k : ℕ) → IsIncreasing ps → i < length ps → k < length ps → get_or ps i [] ≡ get_or ps k [] → i ≡ k
increasing_apart [] i k h a b e = absurd (omega arith)
increasing_apart (p ∷ ps) zero zero h a b e = refl
increasing_apart (p ∷ ps) zero (suc k) h a b e = absurd (before_not_itself p (ap (before p) e ∙ all_get_or (before p) ps k [] h.0 (omega arith)))
increasing_apart (p ∷ ps) (suc i) zero h a b e = absurd (before_not_itself p (ap (before p) (sym e) ∙ all_get_or (before p) ps i [] h.0 (omega arith)))
increasing_apart (p ∷ ps) (suc i) (suc k) h a b e = ap suc (increasing_apart ps i k h.1 (omega arith) (omega arith) e)

core_key : (ds : List Dimension) (x : List ℕ) → Each (λ d. 0 < d.levels) ds → IsPoint ds x → ancestors ds (map (λ d. 0) ds) x ≡ x
unfolding up
core_key [] [] n h = refl
core_key [] (x ∷ xs) n h = absurd h
core_key (d ∷ ds) [] n h = absurd h
core_key (d ∷ ds) (x ∷ xs) n h = ap₂ (λ y ys. y ∷ ys) (ap (λ b. cond b x 0) (lt-ltb 0 d.levels n.0)) (core_key ds xs n.1 h.1)

-- a core cell covers its own place alone
pub core_alone : (w : World) (i k : ℕ) → IsWorld w → i < length w.shown.shape.points → k < length w.shown.shape.points → covers w.shown (core_cell w.shown i) k ≡ true → k ≡ i
unfolding key_at
core_alone w i k ok a b e =
    increasing_apart w.shown.shape.points k i ok.increasing b a
    (sym (core_key w.shown.dimensions (point w.shown k) ok.named (Each-get_or (IsPoint w.shown.dimensions) w.shown.shape.points k [] ok.points b))
    ∙ same_eq _ _ e
    ∙ core_key w.shown.dimensions (point w.shown i) ok.named (Each-get_or (IsPoint w.shown.dimensions) w.shown.shape.points i [] ok.points a))

-- the place of a protected cell, the only one that it covers
pub record Alone (g : Public) (t : Cell) : Type 0 where
  pub place : ℕ
  pub below : place < length g.shape.points
  pub is_first : first (covered g t) ≡ Some place
  pub is_covered : covers g t place ≡ true
  pub only : (k : ℕ) → k < length g.shape.points → covers g t k ≡ true → k ≡ place

pub core_place : (w : World) (i : ℕ) → IsWorld w → i < length w.shown.shape.points → Alone w.shown (core_cell w.shown i)
core_place w i ok l =
    let g : Public = w.shown in
    let t : Cell = core_cell w.shown i in
    let here : covers g t i ≡ true = same_refl (key_at g (core g) i) in
    let f = first_of i (covered g t) (filter_has (covers g t) i (places g) here (count_from_has i 0 (length g.shape.points) (omega arith) (omega arith))) in
    let p = IsIn-filter (covers g t) f.0 (places g) f.2 in
    record {
      place = i;
      below = l;
      is_first = f.1 ∙ ap Some (core_alone w i f.0 ok l (place_below g f.0 p.1) p.0);
      is_covered = here;
      only = λ k b c. core_alone w i k ok l b c;
    }

pub record IsGuarded (g : Public) (m : ℕ) (t : Cell) : Type 0 where
  pub alone : Alone g t
  pub guards : IsIn alone.place (guarded g m)

pub parity_place : (w : World) (m : ℕ) (t : Cell) → IsWorld w → method w.shown m ≡ Parity → IsIn t (protected w.shown m) → IsGuarded w.shown m t
unfolding protected core_place
parity_place w m t ok way h =
    let a = IsIn-map (core_cell w.shown) t (guarded w.shown m) (subst (λ k. IsIn t (protected_by k w.shown m)) way h) in
    subst (IsGuarded w.shown m) a.2 (record { alone = core_place w a.0 ok (guarded_below w.shown m a.0 a.1); guards = a.1 })

pub changes_walks : (g : Public) (h : List Entry) (m : ℕ) (t : Cell) (i : ℕ) → method g m ≡ Parity → first (covered g t) ≡ Some i → changes g h m t ≡ map (by_walks (walks g h m i)) (places g)
unfolding changes
changes_walks g h m t i way f = ap (λ k. map (change_by k g h m t) (places g)) way ∙ ap (λ o. map (with_first (λ from. by_walks (walks g h m from)) o) (places g)) f

small_walks : (g : Public) (h : List Entry) (m i p : ℕ) → IsSmall (by_walks (walks g h m i) p)
small_walks g h m i p = go (listed p (walks g h m i).evenly) (listed p (walks g h m i).oddly)
  where
    go : (a b : Bool) → IsSmall (cond a (pos 1) (cond b (negsuc 0) (pos 0)))
    go true b = inr (inr refl)
    go false true = inl refl
    go false false = inr (inl refl)

pairs_places : (g : Public) (h : List Entry) (m : ℕ) → AreAllowed g h → ArePlaces (length g.shape.points) (pairs_among (links_of g h m))
pairs_places g h m a e k = links_of_places g h m (Pair e.0 e.1) a (pair_from (links_of g h m) e k)

-- the changes suit each link, where some list frees the start
pub walks_suit : (n : ℕ) (ls : List Link) (i : ℕ) → i < n → ((l : Link) → IsIn l ls → IsOf (λ k. k < n) l) → Freeing ls i → (l : Link) → IsIn l ls → Suits (by_walks (reached n (pairs_among ls) i (2 * n))) l
walks_suit n ls i below places f = go
  where
    pairs_suit : (e : ℕ × ℕ) → IsIn e (pairs_among ls) → f.sign e.0 +ℤ f.sign e.1 ≡ pos 0
    pairs_suit e k = f.suiting_all (Pair e.0 e.1) (pair_from ls e k)

    not_none : f.sign i ≡ pos 0 → ⊥
    not_none z = differ (sym f.plus ∙ z)
      where
        differ : pos 1 ≡ pos 0 → ⊥
        differ e = cc

    go : (l : Link) → IsIn l ls → Suits (by_walks (reached n (pairs_among ls) i (2 * n))) l
    go (Pair a b) k = walks_balance n (pairs_among ls) f.sign i (a, b) (λ e z. places (Pair e.0 e.1) (pair_from ls e z)) below pairs_suit not_none (pair_has ls a b k)
    go (Single a) k = unreached n (pairs_among ls) f.sign i (2 * n) a pairs_suit not_none (f.suiting_all (Single a) k)

-- the changes leave each answered row
pub parity_leaves : (w : World) (m : ℕ) (t : Cell) (last : List Entry) → IsWorld w → method w.shown m ≡ Parity → IsAdmissible w.shown last → IsIn t (protected w.shown m) → Leaves w.shown last m (changes w.shown last m t)
unfolding links
parity_leaves w m t last ok way adm is_in h r fresh valid v held q key in_keys =
    ap (λ ch. total ch (filter (in_row w.shown r key) (places w.shown))) (changes_walks w.shown last m t here.alone.place way here.alone.is_first)
    ∙ total_filter w.shown (by_walks (walks w.shown last m here.alone.place)) (in_row w.shown r key)
    ∙ gather_linked (by_walks (walks w.shown last m here.alone.place)) (filter (in_row w.shown r key) (places w.shown)) (λ l k. suited (parity_answer w.shown h r m fresh (sym (verdict_on w.shown h r m Parity way q) ∙ v)) l (row_links l k))
  where
    all : AreAllowed w.shown last
    all = admissible_allowed w.shown [] last adm

    here : IsGuarded w.shown m t
    here = parity_place w m t ok way is_in

    suit_last : (l : Link) → IsIn l (links_of w.shown last m) → Suits (by_walks (walks w.shown last m here.alone.place)) l
    suit_last = walks_suit (length w.shown.shape.points) (links_of w.shown last m) here.alone.place here.alone.below (λ l k. links_of_places w.shown last m l all k) (freeing (length w.shown.shape.points) (links_of w.shown last m) here.alone.place (history_free w.shown last m way adm here.alone.place here.guards))

    row_links : (l : Link) → IsIn l (linked (filter (in_row w.shown r key) (places w.shown))) → IsIn l (links w.shown r)
    row_links l k = flat_map_has (λ row. linked row.places) (row_at w.shown r key) l (rows w.shown r) (map_has (row_at w.shown r) key (row_keys w.shown r) in_keys) k

    -- what suits the last links suits those of each history on the way
    earlier : (l : Link) (k : List Entry) → HeldBy w.shown last k → IsIn l (links_of w.shown k m) → Suits (by_walks (walks w.shown last m here.alone.place)) l
    earlier l k e z = suits_list (by_walks (walks w.shown last m here.alone.place)) (length w.shown.shape.points) l (links_of_places w.shown k m l e.0 z) (as_function (map (by_walks (walks w.shown last m here.alone.place)) (count_from 0 (length w.shown.shape.points))) l
        ((e.1.links m (map (by_walks (walks w.shown last m here.alone.place)) (count_from 0 (length w.shown.shape.points))) way
        (map_suits (by_walks (walks w.shown last m here.alone.place)) (length w.shown.shape.points) (links_of w.shown last m) (small_walks w.shown last m here.alone.place) (λ x y. links_of_places w.shown last m x all y) suit_last)).all l z))

    suited : (list_all (follows (length w.shown.shape.points) (links_of w.shown h m)) (links w.shown r) ≡ true) × (fresh ≡ false) ⊎ (first_stop (length w.shown.shape.points) (guarded w.shown m) (links_of w.shown h m) (links w.shown r) ≡ None) × (fresh ≡ true) → (l : Link) → IsIn l (links w.shown r) → Suits (by_walks (walks w.shown last m here.alone.place)) l
    suited (inl p) l k = let before = subst (λ b. HeldBy w.shown last (entered h r (Answer b))) p.1 held in suits_what_follows (by_walks (walks w.shown last m here.alone.place)) (length w.shown.shape.points) (links_of w.shown h m) l (small_walks w.shown last m here.alone.place)
        (λ x z. links_of_places w.shown h m x before.0 z)
        (λ x z. earlier x h before z)
        (links_places w.shown r l k)
        (all_at (follows (length w.shown.shape.points) (links_of w.shown h m)) l (links w.shown r) p.0 k)
    suited (inr p) l k = earlier l (h ++ Asked r ∷ []) (subst (λ b. HeldBy w.shown last (entered h r (Answer b))) p.1 held) (links_of_has w.shown (h ++ Asked r ∷ []) m r l (append_right (Asked r) h (Asked r ∷ []) (inl refl)) q k)

-- over the cell the changes add to 1
pub parity_sum : (w : World) (m : ℕ) (t : Cell) (last : List Entry) → IsWorld w → method w.shown m ≡ Parity → AreAllowed w.shown last → IsIn t (protected w.shown m) → total (changes w.shown last m t) (covered w.shown t) ≡ pos 1
parity_sum w m t last ok way all is_in =
    ap (λ ch. total ch (covered w.shown t)) (changes_walks w.shown last m t here.place way here.is_first)
    ∙ total_filter w.shown (by_walks (walks w.shown last m here.place)) (covers w.shown t)
    ∙ gather_alike (by_walks (walks w.shown last m here.place)) (at_one here.place (pos 1)) (covered w.shown t) one
    ∙ met (covers w.shown t) here.place (pos 1) 0 (length w.shown.shape.points) (omega arith) (let l : here.place < length w.shown.shape.points = here.below in omega arith) here.is_covered
  where
    here : Alone w.shown t
    here = (parity_place w m t ok way is_in).alone

    at_start : by_walks (walks w.shown last m here.place) here.place ≡ at_one here.place (pos 1) here.place
    at_start = ap (λ b. cond b (pos 1) (cond (listed here.place (walks w.shown last m here.place).oddly) (negsuc 0) (pos 0))) (start_even (length w.shown.shape.points) (pairs_among (links_of w.shown last m)) here.place (pairs_places w.shown last m all) here.below (2 * length w.shown.shape.points))
        ∙ ap (λ b. cond b (pos 1) (pos 0)) (sym (eq-eqb here.place here.place refl))

    one : (k : ℕ) → IsIn k (covered w.shown t) → by_walks (walks w.shown last m here.place) k ≡ at_one here.place (pos 1) k
    one k c = let p = IsIn-filter (covers w.shown t) k (places w.shown) c in subst (λ z. by_walks (walks w.shown last m here.place) z ≡ at_one here.place (pos 1) z) (sym (here.only k (place_below w.shown k p.1) p.0)) at_start

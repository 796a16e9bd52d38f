-- Two worlds for requests that keep a measure.
use Rattle.std.proofs.Common.{◌≡◌, ◌↔◌, ℕ, ◌<◌, inl, inr, true, not, List, [], ◌∷◌, ◌++◌, length, map, filter, Option, Some, None, pos, refl, sym, ap, ◌∙◌, subst, arith, append_assoc}
use Rattle.std.proofs.lemmas.Bool.{not-false}
use Rattle.cube_model.specs.declared.cell.Cell.{Cell}
use Rattle.cube_model.specs.declared.entry.Entry.{Entry}
use Rattle.cube_model.specs.declared.entry.Entry.TheVariants.{Asked, Source, Linked}
use Rattle.cube_model.specs.declared.link.Link.{Link}
use Rattle.cube_model.specs.declared.policy.Method.{Method}
use Rattle.cube_model.specs.declared.policy.Method.TheVariants.{Plain, Lattice, Parity}
use Rattle.cube_model.specs.declared.request.Request.{Request}
use Rattle.cube_model.specs.Cubes.{Public, World, IsWorld, places, covers, covered, is_finer, IsIn, Each}
use Rattle.cube_model.specs.Requests.{grain, in_row, row_keys, row_at, rows, total, values, asks, is_valid}
use Rattle.cube_model.specs.Protection.{method, protected_by, protected, guarded, is_cut, uncut}
use Rattle.cube_model.specs.Links.{linked, links, suiting, has_plus, is_free}
use Rattle.cube_model.specs.Entries.{is_allowed, asked, requests}
use Rattle.cube_model.specs.Verdicts.{narrowed, source, links_of, fixed_by}
use Rattle.cube_model.specs.Twins.{plus_at, moved, with_first, change_under, by_walks, walks, changes, twin}
use Rattle.cube_model.specs.Kept.{IsKeptBy, IsOpenTo, KeptIsOpen, KeptRequestsAreOpen, uncut_by, cell_at, unkept_by, UnkeptIs}
use Rattle.cube_model.proofs.Finer.{is_finer_refl, is_finer_trans, meet_right}
use Rattle.cube_model.proofs.Histories.{cuts_from_uncut, AreAllowed, Each-append_left, Each-at, length-grain, IsLong, long_source, source-push, later_source}
use Rattle.cube_model.proofs.Leasts.{fails}
use Rattle.cube_model.proofs.Members.{IsIn-filter, find_none, first_of, flat_map_has, map_has}
use Rattle.cube_model.proofs.Parities.{Suits, gather_linked, links_of_has, links_of_places, freeing, walks_suit, IsGuarded, parity_place, changes_walks, parity_sum}
use Rattle.cube_model.proofs.Sources.{place_below, cut_at, rows_alike, moved_balanced, moved_covered, total_filter, changes_by, changes_moved, lattice_covers, Each-get_or}
use Rattle.cube_model.proofs.Sums.{met}
use Rattle.cube_model.proofs.Twinned.{IsBalanced, answer_twin, sum_twin}
use Rattle.cube_model.proofs.Worlds.{length-changes, in_list}

-- a list around one of its elements
split_at : {X : Type 0} (x : X) (xs : List X) → IsIn x xs → (ys : List X) × (zs : List X) × (xs ≡ ys ++ x ∷ zs)
split_at x [] h = absurd h
split_at x (y ∷ xs) (inl e) = ([], xs, ap (λ z. z ∷ xs) e)
split_at x (y ∷ xs) (inr k) = let r = split_at x xs k in (y ∷ r.0, r.1, ap (λ z. y ∷ z) r.2)

-- the requests of a history are asked in it
asked_in : (h : List Entry) (r : Request) → IsIn r (requests h) → IsIn (Asked r) h
asked_in [] r k = absurd k
asked_in (Asked x ∷ h) r (inl e) = inl (ap Asked e)
asked_in (Asked x ∷ h) r (inr k) = inr (asked_in h r k)
asked_in (Source m c ∷ h) r k = inr (asked_in h r k)
asked_in (Linked m l ∷ h) r k = inr (asked_in h r k)

valid_in : (g : Public) (h : List Entry) (r : Request) → AreAllowed g h → IsIn (Asked r) h → is_valid g r ≡ true
unfolding is_allowed
valid_in g h r a k = Each-at (λ e. is_allowed g e ≡ true) (Asked r) h a k

-- the source of a history is as fine as the grain of each of its requests
fine_source : (g : Public) (h : List Entry) (m : ℕ) (r : Request) → AreAllowed g h → IsIn (Asked r) h → asks m r ≡ true → (c : List ℕ) × (source h m ≡ Some c) × (is_finer c (grain r) ≡ true)
fine_source g h m r valid k q =
    let s = split_at (Asked r) h k in
    let e : h ≡ (s.0 ++ Asked r ∷ []) ++ s.1 = s.2 ∙ sym (append_assoc s.0 (Asked r ∷ []) s.1) in
    let a = later_source g (s.0 ++ Asked r ∷ []) s.1 m (narrowed (source s.0 m) (grain r)) (subst (AreAllowed g) e valid) (source-push s.0 r m q) in (
      a.0,
      ap (λ h. source h m) e ∙ a.1,
      is_finer_trans a.0 (narrowed (source s.0 m) (grain r)) (grain r) a.2
          (finer (source s.0 m) (long_source g s.0 m (Each-append_left (λ x. is_allowed g x ≡ true) s.0 (Asked r ∷ s.1) (subst (AreAllowed g) s.2 valid)))),
    )
  where
    finer : (o : Option (List ℕ)) → IsLong (length g.dimensions) o → is_finer (narrowed o (grain r)) (grain r) ≡ true
    finer None l = is_finer_refl (grain r)
    finer (Some s) l = meet_right s (grain r) (l ∙ sym (length-grain g r (valid_in g h r valid k)))

lattice_kept : (w : World) (rs : List Entry) (m : ℕ) (t : Cell) → IsWorld w → AreAllowed w.shown rs → method w.shown m ≡ Lattice → IsKeptBy Lattice w.shown rs m → IsIn t (protected w.shown m) → (r : Request) → IsIn (Asked r) rs → asks m r ≡ true → IsBalanced w.shown (changes w.shown rs m t) r
lattice_kept w rs m t ok valid way kept is_in r k q key in_keys =
    let c = fine_source w.shown rs m r valid k q in
    let e = cut_at w.shown c.0 t (kept c.0 c.1 t is_in) in
    ap (λ ch. total ch (filter (in_row w.shown r key) (places w.shown))) (changes_moved w.shown rs m t c.0 e.0 way c.1 e.1)
    ∙ total_filter w.shown (moved e.0) (in_row w.shown r key)
    ∙ moved_balanced w.shown c.0 t e.0 (in_row w.shown r key) e.2 (rows_alike w c.0 r e.0.0 e.0.1 key ok e.2.first_below e.2.second_below (valid_in w.shown rs r valid k) c.2 e.2.joined)

lattice_one : (g : Public) (rs : List Entry) (m : ℕ) (t : Cell) → method g m ≡ Lattice → IsKeptBy Lattice g rs m → IsIn t (protected g m) → total (changes g rs m t) (covered g t) ≡ pos 1
lattice_one g rs m t way kept is_in = go (source rs m) refl
  where
    go : (o : Option (List ℕ)) → source rs m ≡ o → total (changes g rs m t) (covered g t) ≡ pos 1
    go (Some c) s =
        let e = cut_at g c t (kept c s t is_in) in
        ap (λ ch. total ch (covered g t)) (changes_moved g rs m t c e.0 way s e.1) ∙ total_filter g (moved e.0) (covers g t) ∙ moved_covered g c t e.0 e.2
    go None s =
        let a = lattice_covers g m t way is_in in
        let b = first_of a.0 (covered g t) a.1 in
        let p = IsIn-filter (covers g t) b.0 (places g) b.2 in
        let l : b.0 < length g.shape.points = place_below g b.0 p.1 in
        ap (λ ch. total ch (covered g t)) (changes_by g rs m t way ∙ ap (λ o. map (change_under o g t) (places g)) s ∙ ap (λ o. map (with_first plus_at o) (places g)) b.1)
        ∙ total_filter g (plus_at b.0) (covers g t)
        ∙ met (covers g t) b.0 (pos 1) 0 (length g.shape.points) (omega arith) (omega arith) p.0

parity_kept : (w : World) (rs : List Entry) (m : ℕ) (t : Cell) → IsWorld w → AreAllowed w.shown rs → method w.shown m ≡ Parity → IsKeptBy Parity w.shown rs m → IsIn t (protected w.shown m) → (r : Request) → IsIn (Asked r) rs → asks m r ≡ true → IsBalanced w.shown (changes w.shown rs m t) r
unfolding links
parity_kept w rs m t ok valid way kept is_in r k q key in_keys =
    ap (λ ch. total ch (filter (in_row w.shown r key) (places w.shown))) (changes_walks w.shown rs m t here.alone.place way here.alone.is_first)
    ∙ total_filter w.shown (by_walks (walks w.shown rs m here.alone.place)) (in_row w.shown r key)
    ∙ gather_linked (by_walks (walks w.shown rs m here.alone.place)) (filter (in_row w.shown r key) (places w.shown)) (λ l z. suit l (links_of_has w.shown rs m r l k q (row_links l z)))
  where
    here : IsGuarded w.shown m t
    here = parity_place w m t ok way is_in

    suit : (l : Link) → IsIn l (links_of w.shown rs m) → Suits (by_walks (walks w.shown rs m here.alone.place)) l
    suit = walks_suit (length w.shown.shape.points) (links_of w.shown rs m) here.alone.place here.alone.below (λ l k. links_of_places w.shown rs m l valid k) (freeing (length w.shown.shape.points) (links_of w.shown rs m) here.alone.place (kept here.alone.place here.guards))

    row_links : (l : Link) → IsIn l (linked (filter (in_row w.shown r key) (places w.shown))) → IsIn l (links w.shown r)
    row_links l z = flat_map_has (λ row. linked row.places) (row_at w.shown r key) l (rows w.shown r) (map_has (row_at w.shown r) key (row_keys w.shown r) in_keys) z

open_by : (w : World) (rs : List Entry) (m : ℕ) (t : Cell) → IsWorld w → (method w.shown m ≡ Plain → ⊥) → ((r : Request) → IsIn (Asked r) rs → asks m r ≡ true → IsBalanced w.shown (changes w.shown rs m t) r) → total (changes w.shown rs m t) (covered w.shown t) ≡ pos 1 → IsOpenTo w (twin w m (changes w.shown rs m t)) (requests rs) m t
open_by w rs m t ok way balanced sum =
    let a : m < length w.shown.policy.methods = in_list w.shown.policy.methods m way in
    let e : length w.shown.policy.methods ≡ length w.cube = ok.methods in
    let below : m < length w.cube = omega arith in
    let long : length (values w m) ≡ length (changes w.shown rs m t) = Each-get_or (λ vs. length vs ≡ length w.shown.shape.points) w.cube m [] ok.values below ∙ sym (length-changes w.shown rs m t) in
    record {
      same_answers = λ r k. answer_twin w m (changes w.shown rs m t) r below long (balanced r (asked_in rs r k));
      other_sum = sum_twin w m (changes w.shown rs m t) (covered w.shown t) below long sum;
    }

pub kept_is_open : KeptIsOpen
unfolding protected
kept_is_open w rs m t ok valid kept is_in = go (method w.shown m) refl kept
  where
    go : (way : Method) → method w.shown m ≡ way → IsKeptBy way w.shown rs m → IsOpenTo w (twin w m (changes w.shown rs m t)) (requests rs) m t
    go Plain e k = absurd (subst (λ x. IsIn t (protected_by x w.shown m)) e is_in)
    go Lattice e k = open_by w rs m t ok (λ p. absurd (cc)) (lattice_kept w rs m t ok valid e k is_in) (lattice_one w.shown rs m t e k is_in)
    go Parity e k = open_by w rs m t ok (λ p. absurd (cc)) (parity_kept w rs m t ok valid e k is_in) (parity_sum w m t rs ok e valid is_in)

requests_asked : (rs : List Request) → requests (asked rs) ≡ rs
requests_asked [] = refl
requests_asked (r ∷ rs) = ap (λ xs. r ∷ xs) (requests_asked rs)

allowed_asked : (g : Public) (rs : List Request) → Each (λ r. is_valid g r ≡ true) rs → AreAllowed g (asked rs)
unfolding is_allowed
allowed_asked g [] v = tt
allowed_asked g (r ∷ rs) v = (v.0, allowed_asked g rs v.1)

pub kept_requests_are_open : KeptRequestsAreOpen
kept_requests_are_open w rs m t ok valid kept is_in = subst (λ xs. IsOpenTo w (twin w m (changes w.shown (asked rs) m t)) xs m t) (requests_asked rs) (kept_is_open w (asked rs) m t ok (allowed_asked w.shown rs valid) kept is_in)

-- the first cell that fails
pub unkept_is : UnkeptIs
unkept_is g h m = go (method g m)
  where
    cut_all : (c : List ℕ) → ((t : Cell) → IsIn t (protected g m) → is_cut g c t ≡ true) → uncut g c m ≡ None
    cut_all c cuts = fails (λ t. not (is_cut g c t)) (protected g m) (λ t k. ap not (cuts t k))

    lattice : (o : Option (List ℕ)) → (uncut_by g m o ≡ None) ↔ ((c : List ℕ) → o ≡ Some c → (t : Cell) → IsIn t (protected g m) → is_cut g c t ≡ true)
    lattice None = ((λ e c q. absurd (cc)), (λ f. refl))
    lattice (Some s) = ((λ e c q. let sc : s ≡ c = cc in subst (λ x. (t : Cell) → IsIn t (protected g m) → is_cut g x t ≡ true) sc (cuts_from_uncut g s m e)), (λ f. cut_all s (f s refl)))

    nowhere : (o : Option ℕ) → cell_at g o ≡ None → o ≡ None
    nowhere None e = refl
    nowhere (Some i) e = absurd (cc)

    go : (way : Method) → (unkept_by way g h m ≡ None) ↔ IsKeptBy way g h m
    go Plain = ((λ e. tt), (λ k. refl))
    go Lattice = lattice (source h m)
    go Parity = (
      (λ e i k. not-false (is_free (length g.shape.points) (links_of g h m) i) (find_none (λ j. not (has_plus (suiting (length g.shape.points) (links_of g h m)) j)) i (guarded g m) (nowhere (fixed_by (suiting (length g.shape.points) (links_of g h m)) (guarded g m)) e) k)),
      (λ f. ap (cell_at g) (fails (λ j. not (has_plus (suiting (length g.shape.points) (links_of g h m)) j)) (guarded g m) (λ i k. ap not (f i k)))),
    )

-- Changes that leave each row that was answered, over one cube.
use Rattle.std.specs.List.{list_all}
use Rattle.std.proofs.Common.{◌≡◌, ℕ, ◌<◌, ◌⊎◌, inl, inr, Bool, true, false, List, [], ◌∷◌, ◌++◌, length, map, filter, get_or, Some, None, ℤ, pos, refl, sym, ◌∙◌, subst}
use Rattle.std.proofs.lemmas.Bool.{false_from_ne_true}
use Rattle.cube_model.specs.declared.entry.Entry.{Entry}
use Rattle.cube_model.specs.declared.entry.Entry.TheVariants.{Asked}
use Rattle.cube_model.specs.declared.link.Link.{Link}
use Rattle.cube_model.specs.declared.link.Link.TheVariants.{Pair, Single}
use Rattle.cube_model.specs.declared.policy.Method.{Method}
use Rattle.cube_model.specs.declared.policy.Method.TheVariants.{Plain, Lattice, Parity}
use Rattle.cube_model.specs.declared.request.Request.{Request}
use Rattle.cube_model.specs.declared.verdict.Verdict.TheVariants.{Answer}
use Rattle.cube_model.specs.Cubes.{Public, World, IsWorld, core, places, key_at, together, covers, count_from, is_finer, IsIn}
use Rattle.cube_model.specs.Requests.{in_row, rows, row_keys, row_at, grain, asks, is_valid}
use Rattle.cube_model.specs.Protection.{method, core_cell, guarded}
use Rattle.cube_model.specs.Links.{linked, links, follows}
use Rattle.cube_model.specs.Verdicts.{source, links_of, first_stop, verdict}
use Rattle.cube_model.specs.Twins.{moved}
use Rattle.cube_model.specs.Runs.{entered}
use Rattle.cube_model.specs.LinkLaws.{SuitsAll}
use Rattle.cube_model.proofs.Finer.{is_finer_trans}
use Rattle.cube_model.proofs.Growth.{Leaves, entered_grows}
use Rattle.cube_model.proofs.Histories.{AreAllowed, Each-append_left, answered_source, verdict_on}
use Rattle.cube_model.proofs.Holding.{HeldBy}
use Rattle.cube_model.proofs.LinkFacts.{suiting_is}
use Rattle.cube_model.proofs.Members.{IsIn-filter, flat_map_has, map_has, append_right, same_refl}
use Rattle.cube_model.proofs.Parities.{Suits, IsOf, IsSmall, gather_linked, links_places, links_of_places, links_of_has, suits_list, in_suiting, suits_what_follows, all_at, parity_answer, core_alone}
use Rattle.cube_model.proofs.Sources.{IsCutting, place_below, rows_alike, moved_balanced, total_filter}
use Rattle.cube_model.proofs.Sums.{gather_zero}

-- ---- on a lattice measure
-- what is known of a request that was answered: the source at the end is as fine as its grain
pub answered_grain : (g : Public) (last h : List Entry) (r : Request) (m : ℕ) (fresh : Bool) → method g m ≡ Lattice → is_valid g r ≡ true → verdict g h r ≡ Answer fresh → HeldBy g last (entered h r (Answer fresh)) → asks m r ≡ true → (c : List ℕ) × (source last m ≡ Some c) × (is_finer c (grain r) ≡ true)
answered_grain g last h r m fresh way valid v held q =
    let grown = entered_grows h r (Answer fresh) in
    let before : AreAllowed g h = Each-append_left _ h grown.0 (subst (AreAllowed g) grown.1 held.0) in
    let s = answered_source g h r m fresh way valid before q v in
    let c = held.1.sources m s.0 way s.1 in
    (c.0, c.1, is_finer_trans c.0 s.0 (grain r) c.2 s.2)

-- where there is no source at the end, no request on the measure was answered
pub unasked_leaves : (g : Public) (last : List Entry) (m : ℕ) (ch : List ℤ) → method g m ≡ Lattice → source last m ≡ None → Leaves g last m ch
unasked_leaves g last m ch way none h r fresh valid v held q =
    let c = answered_grain g last h r m fresh way valid v held q in
    absurd (some_none c.0 (sym c.1 ∙ none))
  where
    some_none : (c : List ℕ) → Some c ≡ None → ⊥
    some_none c e = cc

-- +1 at one place and -1 at another that the source has together with it
pub moved_leaves : (w : World) (last : List Entry) (m : ℕ) (c : List ℕ) (e : ℕ × ℕ) → IsWorld w → method w.shown m ≡ Lattice → source last m ≡ Some c → e.0 < length w.shown.shape.points → e.1 < length w.shown.shape.points → (e.0 ≡ e.1 → ⊥) → together w.shown c e.0 e.1 ≡ true → Leaves w.shown last m (map (moved e) (places w.shown))
moved_leaves w last m c e ok way is_c a b apart joined h r fresh valid v held q key in_keys =
    let d = answered_grain w.shown last h r m fresh way valid v held q in
    total_filter w.shown (moved e) (in_row w.shown r key)
    ∙ moved_balanced w.shown c (core_cell w.shown e.0) e (in_row w.shown r key) cutting (rows_alike w c r e.0 e.1 key ok a b valid (subst (λ x. is_finer x (grain r) ≡ true) (one_source d.0 (sym d.1 ∙ is_c)) d.2) joined)
  where
    cutting : IsCutting w.shown c (core_cell w.shown e.0) e
    cutting = record {
      first_below = a;
      second_below = b;
      covers_first = same_refl (key_at w.shown (core w.shown) e.0);
      not_second = false_from_ne_true (covers w.shown (core_cell w.shown e.0) e.1) (λ t. apart (sym (core_alone w e.0 e.1 ok a b t)));
      joined = joined;
    }

    one_source : (d : List ℕ) → Some d ≡ Some c → d ≡ c
    one_source d e = cc

-- no change at all
pub zero_leaves : (g : Public) (last : List Entry) (m : ℕ) (f : ℕ → ℤ) → ((i : ℕ) → i < length g.shape.points → f i ≡ pos 0) → Leaves g last m (map f (places g))
zero_leaves g last m f zeros h r fresh valid v held q key in_keys = total_filter g f (in_row g r key) ∙ gather_zero f (filter (in_row g r key) (places g)) (λ i k. zeros i (place_below g i (IsIn-filter (in_row g r key) i (places g) k).1))

-- ---- on a parity measure
pub as_function : (xs : List ℤ) (l : Link) → Rattle.cube_model.specs.LinkLaws.Suits xs l → Suits (λ i. get_or xs i (pos 0)) l
as_function xs (Pair i j) s = s
as_function xs (Single i) s = s

pub as_list : (xs : List ℤ) (l : Link) → Suits (λ i. get_or xs i (pos 0)) l → Rattle.cube_model.specs.LinkLaws.Suits xs l
as_list xs (Pair i j) s = s
as_list xs (Single i) s = s

-- a function that suits links, as a list that does
pub suiting_list : (f : ℕ → ℤ) (n : ℕ) (ls : List Link) → ((i : ℕ) → IsSmall (f i)) → ((l : Link) → IsIn l ls → IsOf (λ i. i < n) l) → ((l : Link) → IsIn l ls → Suits f l) → SuitsAll n ls (map f (count_from 0 n))
suiting_list f n ls small places suits = (suiting_is n ls (map f (count_from 0 n))).0 (in_suiting f n ls small places suits)

pub suits_each : (f : ℕ → ℤ) (n : ℕ) (ls : List Link) → ((l : Link) → IsIn l ls → IsOf (λ i. i < n) l) → SuitsAll n ls (map f (count_from 0 n)) → (l : Link) → IsIn l ls → Suits f l
suits_each f n ls places s l k = suits_list f n l (places l k) (as_function (map f (count_from 0 n)) l (s.all l k))

-- small changes that suit the links at the end leave each row that was answered
pub suited_leaves : (g : Public) (last : List Entry) (m : ℕ) (f : ℕ → ℤ) → method g m ≡ Parity → AreAllowed g last → ((i : ℕ) → IsSmall (f i)) → ((l : Link) → IsIn l (links_of g last m) → Suits f l) → Leaves g last m (map f (places g))
unfolding links
suited_leaves g last m f way all small suits h r fresh valid v held q key in_keys =
    total_filter g f (in_row g r key)
    ∙ gather_linked f (filter (in_row g r key) (places g)) (λ l k. suited (parity_answer g h r m fresh (sym (verdict_on g h r m Parity way q) ∙ v)) l (row_links l k))
  where
    row_links : (l : Link) → IsIn l (linked (filter (in_row g r key) (places g))) → IsIn l (links g r)
    row_links l k = flat_map_has (λ row. linked row.places) (row_at g r key) l (rows g r) (map_has (row_at g r) key (row_keys g r) in_keys) k

    -- what suits the last links suits those of each history on the way
    earlier : (l : Link) (k : List Entry) → HeldBy g last k → IsIn l (links_of g k m) → Suits f l
    earlier l k e z = suits_each f (length g.shape.points) (links_of g k m) (λ x y. links_of_places g k m x e.0 y)
        (e.1.links m (map f (places g)) way (suiting_list f (length g.shape.points) (links_of g last m) small (λ x y. links_of_places g last m x all y) suits)) l z

    suited : (list_all (follows (length g.shape.points) (links_of g h m)) (links g r) ≡ true) × (fresh ≡ false) ⊎ (first_stop (length g.shape.points) (guarded g m) (links_of g h m) (links g r) ≡ None) × (fresh ≡ true) → (l : Link) → IsIn l (links g r) → Suits f l
    suited (inl p) l k = let before = subst (λ b. HeldBy g last (entered h r (Answer b))) p.1 held in suits_what_follows f (length g.shape.points) (links_of g h m) l small
        (λ x z. links_of_places g h m x before.0 z)
        (λ x z. earlier x h before z)
        (links_places g r l k)
        (all_at (follows (length g.shape.points) (links_of g h m)) l (links g r) p.0 k)
    suited (inr p) l k = earlier l (h ++ Asked r ∷ []) (subst (λ b. HeldBy g last (entered h r (Answer b))) p.1 held) (links_of_has g (h ++ Asked r ∷ []) m r l (append_right (Asked r) h (Asked r ∷ []) (inl refl)) q k)

-- ---- changes that fit a history
-- nothing at any place
pub record IsNothing (g : Public) (ch : List ℤ) : Type 0 where
  pub by : ℕ → ℤ
  pub zeros : (i : ℕ) → i < length g.shape.points → by i ≡ pos 0
  pub is : ch ≡ map by (places g)

-- +1 at one place and -1 at another that the source has together with it
pub record IsMoved (g : Public) (last : List Entry) (m : ℕ) (ch : List ℤ) : Type 0 where
  pub levels : List ℕ
  pub is_source : source last m ≡ Some levels
  pub pair : ℕ × ℕ
  pub first_below : pair.0 < length g.shape.points
  pub second_below : pair.1 < length g.shape.points
  pub differ : pair.0 ≡ pair.1 → ⊥
  pub joined : together g levels pair.0 pair.1 ≡ true
  pub is : ch ≡ map (moved pair) (places g)

-- small changes that suit the links
pub record IsSigns (g : Public) (last : List Entry) (m : ℕ) (ch : List ℤ) : Type 0 where
  pub by : ℕ → ℤ
  pub small : (i : ℕ) → IsSmall (by i)
  pub suits : (l : Link) → IsIn l (links_of g last m) → Suits by l
  pub is : ch ≡ map by (places g)

abbrev pub FitsBy : Method → Public → List Entry → ℕ → List ℤ → Type 0
FitsBy Plain g last m ch = ⊥
FitsBy Lattice g last m ch = (source last m ≡ None) ⊎ (IsNothing g ch ⊎ IsMoved g last m ch)
FitsBy Parity g last m ch = IsSigns g last m ch

-- changes that fit a history leave each row that was answered on the way to it
pub fits_leaves : (w : World) (last : List Entry) (m : ℕ) (ch : List ℤ) (way : Method) → IsWorld w → AreAllowed w.shown last → method w.shown m ≡ way → FitsBy way w.shown last m ch → Leaves w.shown last m ch
fits_leaves w last m ch Plain ok all way fit = absurd fit
fits_leaves w last m ch Lattice ok all way (inl none) = unasked_leaves w.shown last m ch way none
fits_leaves w last m ch Lattice ok all way (inr (inl x)) = subst (Leaves w.shown last m) (sym x.is) (zero_leaves w.shown last m x.by x.zeros)
fits_leaves w last m ch Lattice ok all way (inr (inr x)) = subst (Leaves w.shown last m) (sym x.is) (moved_leaves w last m x.levels x.pair ok way x.is_source x.first_below x.second_below x.differ x.joined)
fits_leaves w last m ch Parity ok all way x = subst (Leaves w.shown last m) (sym x.is) (suited_leaves w.shown last m x.by way all x.small x.suits)

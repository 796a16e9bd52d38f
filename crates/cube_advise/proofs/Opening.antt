-- The finest open cuboids, and what they say of answers.
use Rattle.std.specs.Prelude.{◌+◌}
use Rattle.std.proofs.Common.{◌≡◌, ℕ, zero, suc, ◌<◌, ◌≤◌, ◌⊎◌, inl, inr, Bool, true, false, cond, not, ◌&&◌, List, [], ◌∷◌, length, map, find, Option, Some, None, is_none, refl, sym, ap, ◌∙◌, arith, leb, eqb, ⊎_elim}
use Rattle.std.specs.List.{list_all}
use Rattle.std.proofs.lemmas.Bool.{false≢true, and_parts, and_from, leb-true, not-true, not-false, eqb-true}
use Rattle.std.proofs.lemmas.Bool.Decides.{nat_tests}
use Rattle.cube_model.specs.declared.cell.Cell.{Cell}
use Rattle.cube_model.specs.declared.entry.Entry.{Entry}
use Rattle.cube_model.specs.declared.policy.Method.TheVariants.{Lattice}
use Rattle.cube_model.specs.declared.request.Request.{Request}
use Rattle.cube_model.specs.declared.verdict.Verdict.TheVariants.{Answer, Full}
use Rattle.cube_model.specs.Cubes.{Dimension, Public, World, IsWorld, same, is_finer, meet, IsIn, are_levels, cuboids}
use Rattle.cube_model.specs.Requests.{grain, asks, is_valid}
use Rattle.cube_model.specs.Protection.{method, protected, is_cut, uncut}
use Rattle.cube_model.specs.Entries.{requests}
use Rattle.cube_model.specs.Verdicts.{source, narrowed, holds_grain, most_held, unless_uncut, judged, verdict, IsAdmissible}
use Rattle.cube_model.specs.Safe.{has_finer}
use Rattle.cube_model.proofs.Compacts.{lesser_in_range}
use Rattle.cube_model.proofs.Finer.{is_finer_refl, is_finer_trans, meet_left, meet_right, meet_greatest}
use Rattle.cube_model.proofs.Histories.{IsLong, admissible_allowed, long_source, length-grain, length-levels, fits_valid, verdict_on, lattice_answer, cuts_from_uncut, source_cuts}
use Rattle.cube_model.proofs.Leasts.{fails}
use Rattle.cube_model.proofs.Members.{tested, IsIn-filter, filter_has, find_none, same_eq}
use Rattle.cube_model.proofs.Objects.{below_finer, finer_below}
use Rattle.cube_model.proofs.Orders.{coarser_cuts}
use Rattle.cube_model.proofs.Parities.{all_at, all_from}
use Rattle.cube_model.proofs.Walks.{any_from, any_has}
use Rattle.cube_advise.specs.Open.{is_open_by, open_by, finest_by, is_open, finest_open}
use Rattle.cube_advise.specs.OpenLaws.{FinestOpenAre, FinestOpenAtFirst, FinestOpenAreAnswered, IsAbove, IsAnswered}

-- levels in range are those below the coarsest cuboid
pub levels_below : (ds : List Dimension) (c : List ℕ) → are_levels ds c ≡ is_finer c (map (λ d. d.levels) ds)
levels_below [] [] = refl
levels_below [] (l ∷ ls) = refl
levels_below (d ∷ ds) [] = refl
levels_below (d ∷ ds) (l ∷ ls) = ap (λ b. leb l d.levels && b) (levels_below ds ls)

pub sum_levels : List ℕ → ℕ
sum_levels [] = zero
sum_levels (l ∷ ls) = l + sum_levels ls

pub sum_finer : (d c : List ℕ) → is_finer d c ≡ true → sum_levels d ≤ sum_levels c
unfolding sum_levels
sum_finer [] [] e = omega arith
sum_finer [] (b ∷ bs) e = absurd (false≢true e)
sum_finer (a ∷ as') [] e = absurd (false≢true e)
sum_finer (a ∷ as') (b ∷ bs) e = let p = and_parts (leb a b) (is_finer as' bs) e in let x : a ≤ b = leb-true a b p.0 in let y : sum_levels as' ≤ sum_levels bs = sum_finer as' bs p.1 in omega arith

-- what is finer and not the same has a lesser sum
pub sum_less : (d c : List ℕ) → is_finer d c ≡ true → same d c ≡ false → sum_levels d < sum_levels c
unfolding sum_levels
sum_less [] [] e n = absurd (false≢true (sym n))
sum_less [] (b ∷ bs) e n = absurd (false≢true e)
sum_less (a ∷ as') [] e n = absurd (false≢true e)
sum_less (a ∷ as') (b ∷ bs) e n =
    let p = and_parts (leb a b) (is_finer as' bs) e in
    let x : a ≤ b = leb-true a b p.0 in
    go x p.1 (sum_less as' bs p.1) (tested (eqb a b) (λ q. inl (q, ap (λ z. z && same as' bs) (sym q) ∙ n)) (λ q. inr q))
  where
    go : a ≤ b → is_finer as' bs ≡ true → (same as' bs ≡ false → sum_levels as' < sum_levels bs) → ((eqb a b ≡ true) × ((true && same as' bs) ≡ false)) ⊎ (eqb a b ≡ false) → a + sum_levels as' < b + sum_levels bs
    go x f less (inl q) = let y : sum_levels as' < sum_levels bs = less q.1 in let z : a ≡ b = eqb-true a b q.0 in omega arith
    go x f less (inr q) = let y : sum_levels as' ≤ sum_levels bs = sum_finer as' bs f in let z : a < b = grind (arith, nat_tests) in omega arith

module _ (g : Public) (s : Option (List ℕ)) (m : ℕ) where
  open_in : (c : List ℕ) → are_levels g.dimensions c ≡ true → is_open_by g s m c ≡ true → IsIn c (open_by g s m)
  open_in c r o = filter_has (is_open_by g s m) c (cuboids g) o (finer_below (map (λ d. d.levels) g.dimensions) c (sym (levels_below g.dimensions c) ∙ r))

  in_open : (c : List ℕ) → IsIn c (open_by g s m) → (is_open_by g s m c ≡ true) × (are_levels g.dimensions c ≡ true)
  in_open c k = let a = IsIn-filter (is_open_by g s m) c (cuboids g) k in (a.0, levels_below g.dimensions c ∙ below_finer (map (λ d. d.levels) g.dimensions) c a.1)

  in_finest : (c : List ℕ) → IsIn c (finest_by g s m) → (has_finer (open_by g s m) c ≡ false) × IsIn c (open_by g s m)
  in_finest c k = let a = IsIn-filter (λ c. not (has_finer (open_by g s m) c)) c (open_by g s m) k in (not-true (has_finer (open_by g s m) c) a.0, a.1)

  -- a listed cuboid is in range
  pub listed_levels : (c : List ℕ) → IsIn c (finest_by g s m) → are_levels g.dimensions c ≡ true
  listed_levels c k = (in_open c (in_finest c k).1).1

  listed_open : (c : List ℕ) → IsIn c (finest_by g s m) → is_open_by g s m c ≡ true
  listed_open c k = (in_open c (in_finest c k).1).0

  -- an open cuboid is above a finest one
  descend : (n : ℕ) (c : List ℕ) → sum_levels c < n → IsIn c (open_by g s m) → (d : List ℕ) × (IsIn d (finest_by g s m)) × (is_finer d c ≡ true)
  descend zero c l k = absurd (omega arith)
  descend (suc n) c l k = tested (has_finer (open_by g s m) c)
      (λ e. let a = any_from (λ d. is_finer d c && not (same d c)) (open_by g s m) e in
      let p = and_parts (is_finer a.0 c) (not (same a.0 c)) a.2 in
      let less : sum_levels a.0 < sum_levels c = sum_less a.0 c p.0 (not-true (same a.0 c) p.1) in
      let r = descend n a.0 (omega arith) a.1 in
      (r.0, r.1, is_finer_trans r.0 a.0 c r.2 p.0))
      (λ e. (c, filter_has (λ c. not (has_finer (open_by g s m) c)) c (open_by g s m) (ap not e) k, is_finer_refl c))

  one : (c d : List ℕ) → IsIn c (finest_by g s m) → IsIn d (finest_by g s m) → is_finer d c ≡ true → not (same d c) ≡ false
  one c d k z f = tested (not (same d c))
      (λ e. absurd (false≢true (sym (in_finest c k).0 ∙ any_has (λ d. is_finer d c && not (same d c)) d (open_by g s m) (in_finest d z).1 (and_from (is_finer d c) (not (same d c)) f e))))
      (λ e. e)

  apart : (c d : List ℕ) → IsIn c (finest_by g s m) → IsIn d (finest_by g s m) → is_finer d c ≡ true → d ≡ c
  apart c d k z f = same_eq d c (not-false (same d c) (one c d k z f))

  complete : (c : List ℕ) → are_levels g.dimensions c ≡ true → is_open_by g s m c ≡ true → (d : List ℕ) × (IsIn d (finest_by g s m)) × (is_finer d c ≡ true)
  complete c r o = descend (suc (sum_levels c)) c (omega arith) (open_in c r o)

pub finest_open_are : FinestOpenAre
finest_open_are g h m = record {
  in_range = listed_levels g (source h m) m;
  are_open = listed_open g (source h m) m;
  apart = apart g (source h m) m;
  complete = complete g (source h m) m;
}

pub finest_open_at_first : FinestOpenAtFirst
finest_open_at_first g h m e = ap (λ s. finest_by g s m) e

-- ---- open is what is not uncut

pub all_is_none : {X : Type 0} (p : X → Bool) (xs : List X) → list_all p xs ≡ is_none (find (λ x. not (p x)) xs)
all_is_none {X} p xs = go (find (λ x. not (p x)) xs) refl
  where
    none_from : list_all p xs ≡ true → find (λ x. not (p x)) xs ≡ None
    none_from a = fails (λ x. not (p x)) xs (λ x k. ap not (all_at p x xs a k))

    go : (o : Option X) → find (λ x. not (p x)) xs ≡ o → list_all p xs ≡ is_none o
    go None e = all_from p xs (λ x k. not-false (p x) (find_none (λ x. not (p x)) x xs e k))
    go (Some t) e = tested (list_all p xs) (λ a. absurd (differs (sym (none_from a) ∙ e))) (λ f. f)
      where
        differs : None ≡ Some t → ⊥
        differs q = cc

-- a cuboid is open exactly where the source, narrowed by it, leaves no protected cell uncut
pub open_is_none : (g : Public) (s : Option (List ℕ)) (m : ℕ) (c : List ℕ) → is_open_by g s m c ≡ is_none (uncut g (narrowed s c) m)
open_is_none g s m c = all_is_none (is_cut g (narrowed s c)) (protected g m)

-- ---- answers

narrowed_finer : (n : ℕ) (s : Option (List ℕ)) (d c : List ℕ) → IsLong n s → length d ≡ n → length c ≡ n → is_finer d c ≡ true → is_finer (narrowed s d) (narrowed s c) ≡ true
narrowed_finer n None d c l a b f = f
narrowed_finer n (Some s) d c l a b f = meet_greatest s c (meet s d) (meet_left s d (l ∙ sym a)) (is_finer_trans (meet s d) d c (meet_right s d (l ∙ sym a)) f)

module _ (w : World) (h : List Entry) (r : Request) (m : ℕ) (ok : IsWorld w) (way : method w.shown m ≡ Lattice) (adm : IsAdmissible w.shown h) (valid : is_valid w.shown r ≡ true) (q : asks m r ≡ true) (room : length (requests h) < most_held) where
  grain_levels : are_levels w.shown.dimensions (grain r) ≡ true
  unfolding grain
  grain_levels = lesser_in_range w.shown.dimensions r.group r.picks (fits_valid w.shown r valid)

  told : verdict w.shown h r ≡ judged Lattice w.shown h r m
  told = verdict_on w.shown h r m Lattice way q

  -- an answered grain is open
  held_open : (o : Option (List ℕ)) → source h m ≡ o → holds_grain o (grain r) ≡ true → is_open_by w.shown o m (grain r) ≡ true
  held_open None e k = absurd (false≢true k)
  held_open (Some s) e k = all_from (is_cut w.shown (meet s (grain r))) (protected w.shown m)
      (λ t z. ap (λ c. is_cut w.shown c t) (same_eq (meet s (grain r)) s k) ∙ source_cuts w.shown h m s way adm e t z)

  grain_open : IsAnswered (verdict w.shown h r) → is_open w.shown h m (grain r) ≡ true
  grain_open a = ⊎_elim (λ k. held_open (source h m) refl k.0)
      (λ k. all_from (is_cut w.shown (narrowed (source h m) (grain r))) (protected w.shown m) (cuts_from_uncut w.shown (narrowed (source h m) (grain r)) m k.0))
      (lattice_answer w.shown h r m a.0 (sym told ∙ a.1))

  forth : IsAnswered (verdict w.shown h r) → IsAbove (grain r) (finest_open w.shown h m)
  forth a = complete w.shown (source h m) m (grain r) grain_levels (grain_open a)

  -- a grain above an open cuboid is answered
  above_open : (d : List ℕ) → are_levels w.shown.dimensions d ≡ true → is_open w.shown h m d ≡ true → is_finer d (grain r) ≡ true → is_open w.shown h m (grain r) ≡ true
  above_open d range o f = all_from (is_cut w.shown (narrowed (source h m) (grain r))) (protected w.shown m)
      (λ t z. coarser_cuts w (narrowed (source h m) d) (narrowed (source h m) (grain r)) t ok
      (narrowed_finer (length w.shown.dimensions) (source h m) d (grain r) (long_source w.shown h m (admissible_allowed w.shown [] h adm)) (length-levels w.shown.dimensions d range) (length-grain w.shown r valid) f)
      (all_at (is_cut w.shown (narrowed (source h m) d)) t (protected w.shown m) o z))

  open_answered : is_open w.shown h m (grain r) ≡ true → IsAnswered (verdict w.shown h r)
  open_answered o = go (holds_grain (source h m) (grain r)) (leb most_held (length (requests h))) (uncut w.shown (narrowed (source h m) (grain r)) m) not_full none told
    where
      not_full : leb most_held (length (requests h)) ≡ false
      not_full = grind (arith, nat_tests, room)

      is_none_from : (u : Option Cell) → is_none u ≡ true → u ≡ None
      is_none_from None e = refl
      is_none_from (Some t) e = absurd (false≢true e)

      none : uncut w.shown (narrowed (source h m) (grain r)) m ≡ None
      none = is_none_from (uncut w.shown (narrowed (source h m) (grain r)) m) (sym (open_is_none w.shown (source h m) m (grain r)) ∙ o)

      go : (a b : Bool) (u : Option Cell) → b ≡ false → u ≡ None → verdict w.shown h r ≡ cond a (Answer false) (cond b (Full (length (requests h))) (unless_uncut (narrowed (source h m) (grain r)) u)) → IsAnswered (verdict w.shown h r)
      go true b u x y v = (false, v)
      go false true u x y v = absurd (false≢true (sym x))
      go false false None x y v = (true, v)
      go false false (Some t) x y v = absurd (cc)

  back : IsAbove (grain r) (finest_open w.shown h m) → IsAnswered (verdict w.shown h r)
  back k = open_answered (above_open k.0 (listed_levels w.shown (source h m) m k.0 k.1) (listed_open w.shown (source h m) m k.0 k.1) k.2)

pub finest_open_are_answered : FinestOpenAreAnswered
finest_open_are_answered w h r m ok way adm valid q room = (forth w h r m ok way adm valid q room, back w h r m ok way adm valid q room)

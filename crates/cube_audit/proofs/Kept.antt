-- What requests keep, one after another.
use Rattle.std.specs.List.{All}
use Rattle.std.proofs.Common.{◌≡◌, refl, sym, ap, ◌∙◌, ℕ, zero, suc, ◌+◌, ◌-◌, ◌<◌, ◌≤◌, true, false, not, List, [], ◌∷◌, ◌++◌, length, take, find, get_or, Option, Some, None, IfSome, ℤ, subst, arith, append-nil}
use Rattle.std.proofs.lemmas.List.{map_more, take_all}
use Rattle.cube_model.specs.declared.cell.Cell.{Cell}
use Rattle.cube_model.specs.declared.entry.Entry.{Entry}
use Rattle.cube_model.specs.declared.entry.Entry.TheVariants.{Asked}
use Rattle.cube_model.specs.declared.link.Link.{Link}
use Rattle.cube_model.specs.declared.request.Request.{Request}
use Rattle.cube_model.specs.Cubes.{Public, are_levels, count_from}
use Rattle.cube_model.specs.Entries.{asked, is_allowed}
use Rattle.cube_model.specs.Kept.{unkept}
use Rattle.cube_model.specs.Links.{basis, links, suiting, has_plus, is_free}
use Rattle.cube_model.specs.Requests.{asks, grain, is_valid}
use Rattle.cube_model.specs.Verdicts.{source, narrowed, links_of, fixed_by}
use Rattle.cube_model.specs.Protection.{guarded}
use Rattle.cube_model.proofs.Bases.{basis_of_more}
use Rattle.cube_model.proofs.Compacts.{InRange, source_in_range}
use Rattle.cube_model.proofs.Histories.{AreAllowed, IsLong, length-grain, long_source, source-push, source-skip, links_of-append}
use Rattle.cube_model.proofs.Parities.{links_of-one, links_of-none, guarded_below}
use Rattle.cube_admit.proofs.Linking.{more_suiting}
use Rattle.cube_source.specs.declared.judging.Judged.TheVariants.{Safe, Uncut}
use Rattle.cube_source.specs.Judged.{judged_of}
use Rattle.cube_audit.specs.Audits.{unless_fixed, kept_or_fixed}
use Rattle.cube_audit.proofs.Fitting.{found_in}
use Rattle.cube_audit.specs.declared.auditing.Audited.TheVariants.{Yes, Fixed}

-- ---- valid requests are allowed

pub allowed : (g : Public) (rs : List Request) → All (λ r. is_valid g r ≡ true) rs → AreAllowed g (asked rs)
unfolding is_allowed
allowed g [] h = tt
allowed g (r ∷ rs) h = (h 0 r (omega arith), allowed g rs (λ k d l. h (suc k) d (omega (arith, l))))

pub allowed_front : (g : Public) (i : ℕ) (rs : List Request) → AreAllowed g (asked rs) → AreAllowed g (asked (take i rs))
allowed_front g zero rs a = tt
allowed_front g (suc i) [] a = tt
allowed_front g (suc i) (r ∷ rs) a = (a.0, allowed_front g i rs a.1)

-- ---- one more request

module _ (rs : List Request) (i : ℕ) (r : Request) (within : i < length rs) (is : r ≡ get_or rs i r) where
  asked_more : asked (take (i + 1) rs) ≡ asked (take i rs) ++ Asked r ∷ []
  asked_more = map_more Asked rs i r within ∙ ap (λ x. asked (take i rs) ++ Asked x ∷ []) (sym is)

  pub source_next : (m : ℕ) → asks m r ≡ true → source (asked (take (i + 1) rs)) m ≡ Some (narrowed (source (asked (take i rs)) m) (grain r))
  source_next m q = ap (λ h. source h m) asked_more ∙ source-push (asked (take i rs)) r m q

  pub source_same : (m : ℕ) → asks m r ≡ false → source (asked (take (i + 1) rs)) m ≡ source (asked (take i rs)) m
  source_same m q = ap (λ h. source h m) asked_more ∙ source-skip (asked (take i rs)) (Asked r) m q

  links_next : (g : Public) (m : ℕ) → asks m r ≡ true → links_of g (asked (take (i + 1) rs)) m ≡ links_of g (asked (take i rs)) m ++ links g r
  links_next g m q =
      ap (λ h. links_of g h m) asked_more
      ∙ links_of-append g (asked (take i rs)) (Asked r ∷ []) m
      ∙ ap (λ ls. links_of g (asked (take i rs)) m ++ ls) (links_of-one g (Asked r) m q)

  links_same : (g : Public) (m : ℕ) → asks m r ≡ false → links_of g (asked (take (i + 1) rs)) m ≡ links_of g (asked (take i rs)) m
  links_same g m q =
      ap (λ h. links_of g h m) asked_more
      ∙ links_of-append g (asked (take i rs)) (Asked r ∷ []) m
      ∙ ap (λ ls. links_of g (asked (take i rs)) m ++ ls) (links_of-none g (Asked r) m q)
      ∙ append-nil (links_of g (asked (take i rs)) m)

  -- a basis of the links so far, with the links of one more request
  pub kept_next : (g : Public) (m n : ℕ) (kept new : List Link) → asks m r ≡ true → kept ≡ basis n (links_of g (asked (take i rs)) m) → new ≡ basis n (kept ++ links g r) → new ≡ basis n (links_of g (asked (take (i + 1) rs)) m)
  kept_next g m n kept new q so_far grown =
      grown
      ∙ ap (λ ks. basis n (ks ++ links g r)) so_far
      ∙ basis_of_more n (links_of g (asked (take i rs)) m) (links g r)
      ∙ ap (basis n) (sym (links_next g m q))

  pub kept_same : (g : Public) (m n : ℕ) (kept : List Link) → asks m r ≡ false → kept ≡ basis n (links_of g (asked (take i rs)) m) → kept ≡ basis n (links_of g (asked (take (i + 1) rs)) m)
  kept_same g m n kept q so_far = so_far ∙ ap (basis n) (sym (links_same g m q))

  -- the source so far is as long as the grain
  pub long_so_far : (g : Public) (m : ℕ) → All (λ x. is_valid g x ≡ true) rs → IfSome (source (asked (take i rs)) m) (λ levels. length levels ≡ length (grain r))
  long_so_far g m valid = go (source (asked (take i rs)) m) (long_source g (asked (take i rs)) m (allowed_front g i rs (allowed g rs valid)))
    where
      here : is_valid g r ≡ true
      here = ap (is_valid g) is ∙ valid i r within

      go : (o : Option (List ℕ)) → IsLong (length g.dimensions) o → IfSome o (λ levels. length levels ≡ length (grain r))
      go None l = tt
      go (Some c) l = l ∙ sym (length-grain g r here)

pub at_end : (rs : List Request) (i : ℕ) → length rs ≤ i → asked (take i rs) ≡ asked rs
at_end rs i past = ap asked (take_all i rs past)

-- ---- places that are not free

pub by_links : (n : ℕ) (ls : List Link) (places : List ℕ) → find (λ i. not (is_free n (basis n ls) i)) places ≡ fixed_by (suiting n ls) places
by_links n ls places =
    let same : suiting n (basis n ls) ≡ suiting n ls = ap (suiting n) (sym (append-nil (basis n ls))) ∙ more_suiting n ls [] ∙ ap (suiting n) (append-nil ls) in
    ap (λ lists. fixed_by lists places) same

-- ---- verdicts on a source

pub safe_is : (o : Option Cell) → Safe ≡ judged_of o → None ≡ o
safe_is None e = refl
safe_is (Some t) e = absurd (cc)

pub uncut_is : (t : Cell) (o : Option Cell) → Uncut t ≡ judged_of o → Some t ≡ o
uncut_is t None e = absurd (cc)
uncut_is t (Some s) e = cc

-- ---- one measure after another

module _ (n : ℕ) (g : Public) (h : List Entry) (m many : ℕ) (below : m < many) where
  here : kept_or_fixed n g h (count_from m (many - m)) ≡ unless_fixed m (kept_or_fixed n g h (count_from (m + 1) (many - (m + 1)))) (unkept g h m)
  here =
      let e : many - m ≡ suc (many - (m + 1)) = omega (arith, below) in
      let s : suc m ≡ m + 1 = omega arith in
      ap (λ k. kept_or_fixed n g h (count_from m k)) e ∙ ap (λ k. unless_fixed m (kept_or_fixed n g h (count_from k (many - (m + 1)))) (unkept g h m)) s

  pub next_measure : None ≡ unkept g h m → kept_or_fixed n g h (count_from (m + 1) (many - (m + 1))) ≡ kept_or_fixed n g h (count_from m (many - m))
  next_measure e = sym (here ∙ ap (unless_fixed m (kept_or_fixed n g h (count_from (m + 1) (many - (m + 1))))) (sym e))

  pub fixed_measure : (t : Cell) → Some t ≡ unkept g h m → kept_or_fixed n g h (count_from m (many - m)) ≡ Fixed m t
  fixed_measure t e = here ∙ ap (unless_fixed m (kept_or_fixed n g h (count_from (m + 1) (many - (m + 1))))) (sym e)

pub all_measures : (n : ℕ) (g : Public) (h : List Entry) (m many : ℕ) → many ≤ m → kept_or_fixed n g h (count_from m (many - m)) ≡ Yes n
all_measures n g h m many past =
    let e : many - m ≡ 0 = omega (arith, past) in
    ap (λ k. kept_or_fixed n g h (count_from m k)) e

-- ---- the first place that is not free

pub first_place : (n k : ℕ) (kept ls : List Link) (xs guards : List ℕ) (found : Option ℕ) → k ≡ n → kept ≡ basis n ls → xs ≡ guards → found ≡ find (λ i. not (is_free k kept i)) xs → found ≡ fixed_by (suiting n ls) guards
first_place n k kept ls xs guards found places basis_is xs_are is =
    is
    ∙ ap (λ j. find (λ i. not (is_free j kept i)) xs) places
    ∙ ap (λ ks. find (λ i. not (is_free n ks i)) xs) basis_is
    ∙ by_links n ls xs
    ∙ ap (fixed_by (suiting n ls)) xs_are

pub place_below : (g : Public) (m : ℕ) (lists : List (List ℤ)) (found : Option ℕ) → found ≡ fixed_by lists (guarded g m) → IfSome found (λ i. i < length g.shape.points)
place_below g m lists None e = tt
place_below g m lists (Some i) e = guarded_below g m i (found_in (λ j. not (has_plus lists j)) (guarded g m) i (sym e))

pub levels_in_range : (g : Public) (rs : List Request) (m : ℕ) (levels : List ℕ) → All (λ r. is_valid g r ≡ true) rs → Some levels ≡ source (asked rs) m → are_levels g.dimensions levels ≡ true
levels_in_range g rs m levels valid e = subst (InRange g) (sym e) (source_in_range g (asked rs) m (allowed g rs valid))

-- The source of a measure, an entry further.
use Rattle.std.specs.List.{fold}
use Rattle.std.specs.Prelude.{IfSome}
use Rattle.std.proofs.Common.{◌≡◌, ℕ, ◌+◌, ◌<◌, true, false, List, [], ◌∷◌, ◌++◌, length, take, get_or, Option, Some, None, refl, sym, ap, ◌∙◌, subst}
use Rattle.std.proofs.lemmas.Bool.{and_parts, eqb-true}
use Rattle.std.proofs.lemmas.List.{take_more}
use Rattle.cube_model.specs.declared.entry.Entry.{Entry}
use Rattle.cube_model.specs.declared.entry.Entry.TheVariants.{Asked, Source, Linked}
use Rattle.cube_model.specs.declared.request.Request.{Request}
use Rattle.cube_model.specs.Cubes.{Dimension, Public, are_levels}
use Rattle.cube_model.specs.Entries.{is_allowed, is_on, levels_in}
use Rattle.cube_model.specs.Protection.{method, is_lattice}
use Rattle.cube_model.specs.Requests.{grain, is_valid}
use Rattle.cube_model.specs.Verdicts.{narrowed, source}
use Rattle.cube_model.proofs.Compacts.{lesser_in_range, meet_in_range}
use Rattle.cube_model.proofs.Histories.{fits_valid, length-levels, source-push, source-narrow, source-skip, source-link}
use Rattle.cube_model.proofs.Sources.{Each-get_or}
use Rattle.cube_reason.specs.Given.{AreAllowed, HasLevels}

-- the grain of a valid request is a cuboid
pub grain_levels : (g : Public) (r : Request) → is_valid g r ≡ true → are_levels g.dimensions (grain r) ≡ true
unfolding grain
grain_levels g r v = lesser_in_range g.dimensions r.group r.picks (fits_valid g r v)

-- and so are the levels of a source that is allowed
pub source_levels : (g : Public) (m : ℕ) (c : List ℕ) → is_allowed g (Source m c) ≡ true → are_levels g.dimensions c ≡ true
unfolding is_allowed
source_levels g m c e = (and_parts (is_lattice (method g m)) (are_levels g.dimensions c) e).1

pub asked_valid : (g : Public) (r : Request) → is_allowed g (Asked r) ≡ true → is_valid g r ≡ true
unfolding is_allowed
asked_valid g r e = e

pub narrowed_levels : (ds : List Dimension) (s : Option (List ℕ)) (c : List ℕ) → HasLevels ds s → are_levels ds c ≡ true → are_levels ds (narrowed s c) ≡ true
narrowed_levels ds None c a b = b
narrowed_levels ds (Some s) c a b = meet_in_range ds s c a b

pub narrow_long : (ds : List Dimension) (s : Option (List ℕ)) (c : List ℕ) → HasLevels ds s → are_levels ds c ≡ true → IfSome s (λ held. length held ≡ length c)
narrow_long ds None c a b = tt
narrow_long ds (Some s) c a b = length-levels ds s a ∙ sym (length-levels ds c b)

source_on : (h : List Entry) (m : ℕ) (e : Entry) → is_on m e ≡ true → source (h ++ e ∷ []) m ≡ fold (λ s c. Some (narrowed s c)) (source h m) (levels_in e)
source_on h m (Asked r) a = source-push h r m a
source_on h m (Source k c) a = subst (λ x. source (h ++ Source x c ∷ []) m ≡ Some (narrowed (source h m) c)) (sym (eqb-true k m a)) (source-narrow h m c)
source_on h m (Linked k l) a = source-link h k m l

taken_more : (h : List Entry) (i : ℕ) (e : Entry) → i < length h → e ≡ get_or h i e → take (i + 1) h ≡ take i h ++ e ∷ []
taken_more h i e l is = take_more h i e l ∙ ap (λ x. take i h ++ x ∷ []) (sym is)

pub source_more : (h : List Entry) (m i : ℕ) (e : Entry) (s next : Option (List ℕ)) → i < length h → e ≡ get_or h i e → is_on m e ≡ true → s ≡ source (take i h) m → next ≡ fold (λ s c. Some (narrowed s c)) s (levels_in e) → next ≡ source (take (i + 1) h) m
source_more h m i e s next l is on at is_next =
    is_next ∙ ap (λ x. fold (λ s c. Some (narrowed s c)) x (levels_in e)) at ∙ sym (source_on (take i h) m e on) ∙ ap (λ x. source x m) (sym (taken_more h i e l is))

pub source_same : (h : List Entry) (m i : ℕ) (e : Entry) (s : Option (List ℕ)) → i < length h → e ≡ get_or h i e → is_on m e ≡ false → s ≡ source (take i h) m → s ≡ source (take (i + 1) h) m
source_same h m i e s l is off at = at ∙ sym (source-skip (take i h) e m off) ∙ ap (λ x. source x m) (sym (taken_more h i e l is))

pub source_start : (m : ℕ) → source [] m ≡ None
unfolding source
source_start m = refl

pub entry_allowed : (g : Public) (h : List Entry) (i : ℕ) (e : Entry) → AreAllowed g h → i < length h → e ≡ get_or h i e → is_allowed g e ≡ true
entry_allowed g h i e a l is = subst (λ x. is_allowed g x ≡ true) (sym is) (Each-get_or (λ x. is_allowed g x ≡ true) h i e a l)

pub grain_there : (g : Public) (e : Entry) (r : Request) (c : List ℕ) → is_allowed g e ≡ true → e ≡ Asked r → c ≡ grain r → are_levels g.dimensions c ≡ true
grain_there g e r c a is at = ap (are_levels g.dimensions) at ∙ grain_levels g r (asked_valid g r (subst (λ x. is_allowed g x ≡ true) is a))

pub source_there : (g : Public) (e : Entry) (m : ℕ) (c d : List ℕ) → is_allowed g e ≡ true → e ≡ Source m c → d ≡ c → are_levels g.dimensions d ≡ true
source_there g e m c d a is at = ap (are_levels g.dimensions) at ∙ source_levels g m c (subst (λ x. is_allowed g x ≡ true) is a)

-- Checks of items one after another.
use Rattle.std.proofs.Common.{◌≡◌, ◌⊎◌, inl, inr, ℕ, ◌+◌, ◌<◌, List, [], ◌∷◌, ◌++◌, length, get_or, drop, take, map, flat_map, Result, Ok, Err, IfErr, refl, sym, ap, ap₂, ◌∙◌}
use Rattle.std.specs.Result.{IsErrAnd}
use Rattle.std.proofs.lemmas.List.{drop_more, map_more, map-append}
use Rattle.cube_model.specs.Answers.{Answers}
use Rattle.cube_model.specs.Checks.{unless}

-- nothing is found where a value is said
pub nothing : {F X : Type 0} (fs : List F) (x y : X) → unless fs x ≡ Ok y → fs ≡ []
nothing [] x y h = refl
nothing (f ∷ fs) x y h = absurd (cc)

-- and it is this value
pub value : {F X : Type 0} (fs : List F) (x y : X) → unless fs x ≡ Ok y → x ≡ y
value [] x y h = cc
value (f ∷ fs) x y h = absurd (cc)

-- want of memory, or the first fault
abbrev pub Refused : {F X : Type 0} → F → F → Result X F → Type 0
Refused no_memory e said = (e ≡ no_memory) ⊎ (said ≡ Err e)

-- what an error that is handed on by `?` says
pub handed_on : {F Y : Type 0} (no_memory : F) (r : Result Y F) (e : F) (said : Result Y F) → IsErrAnd r (λ f. f ≡ e) → Refused no_memory e said → Answers no_memory r said
handed_on no_memory (Ok z) e said h k = absurd h
handed_on no_memory (Err f) e said h k = rw h k

-- where memory ran out, no more is said
pub no_memory : {F X Y : Type 0} (memory : F) (r : Result X F) (said : Result Y F) → IsErrAnd r (λ f. f ≡ memory) → IfErr r (λ e. (e ≡ memory) ⊎ (said ≡ Err e))
no_memory memory (Ok x) said h = tt
no_memory memory (Err e) said h = inl h

-- the first fault, whatever is checked behind it
pub still_first : {F X Y : Type 0} (no_memory e : F) (fs gs : List F) (x : X) (y : Y) → Refused no_memory e (unless fs x) → Refused no_memory e (unless (fs ++ gs) y)
still_first no_memory e fs gs x y (inl m) = inl m
still_first no_memory e [] gs x y (inr h) = absurd (cc)
still_first no_memory e (f ∷ fs) gs x y (inr h) = let same : f ≡ e = cc in inr (ap (λ g. Err g) same)

-- the item at hand, and those behind it
pub at_hand : {X : Type 0} (xs : List X) (i : ℕ) (x : X) → i < length xs → x ≡ get_or xs i x → drop i xs ≡ x ∷ drop (i + 1) xs
at_hand xs i x l at = drop_more xs i x l ∙ ap (λ y. y ∷ drop (i + 1) xs) (sym at)

module _ {X F Y Z : Type 0} (f : X → List F) (y : Y) where
  -- a fault of the item at hand is the first of those that are left
  pub turn_fault : (no_memory e : F) (said : Result Y F) (xs : List X) (i : ℕ) (x : X) (z : Z) → i < length xs → x ≡ get_or xs i x
      → said ≡ unless (flat_map f (drop i xs)) y → Refused no_memory e (unless (f x) z) → Refused no_memory e said
  turn_fault no_memory e said xs i x z l at is h =
      rw (is, at_hand xs i x l at) (still_first no_memory e (f x) (flat_map f (drop (i + 1) xs)) z y h)

  -- where the item at hand has no fault, those behind it are left
  pub turn_next : (said : Result Y F) (xs : List X) (i : ℕ) (x : X) (z w : Z) → i < length xs → x ≡ get_or xs i x
      → said ≡ unless (flat_map f (drop i xs)) y → unless (f x) z ≡ Ok w → said ≡ unless (flat_map f (drop (i + 1) xs)) y
  turn_next said xs i x z w l at is h =
      is ∙ ap (λ (rest : List X). unless (flat_map f rest) y) (at_hand xs i x l at) ∙ ap (λ (fs : List F). unless (fs ++ flat_map f (drop (i + 1) xs)) y) (nothing (f x) z w h)

-- one more of a list that is made item by item
pub one_more : {X Y : Type 0} (g : X → Y) (ys more : List Y) (xs : List X) (i : ℕ) (x : X) → i < length xs → x ≡ get_or xs i x → ys ≡ map g (take i xs) → more ≡ ys ++ g x ∷ [] → more ≡ map g (take (i + 1) xs)
one_more g ys more xs i x l at is grown = grown ∙ ap (λ zs. zs ++ g x ∷ []) is ∙ ap (λ z. map g (take i xs) ++ g z ∷ []) at ∙ sym (map_more g xs i x l)

-- one more of what some items are found to say
pub said_more : {X Y Z : Type 0} (f : X → Y) (g : Z → Y) (xs : List X) (i : ℕ) (x : X) (zs more : List Z) (z : Z) → i < length xs → x ≡ get_or xs i x → map f (take i xs) ≡ map g zs → f x ≡ g z → more ≡ zs ++ z ∷ [] → map f (take (i + 1) xs) ≡ map g more
said_more f g xs i x zs more z l at is found grown =
    map_more f xs i x l ∙ ap (λ y. map f (take i xs) ++ f y ∷ []) (sym at) ∙ ap₂ (λ ys y. ys ++ y ∷ []) is found ∙ sym (map-append g zs (z ∷ [])) ∙ ap (map g) (sym grown)

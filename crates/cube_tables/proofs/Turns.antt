-- Checks one after another, and checks of items in turn.
use Rattle.std.proofs.Common.{◌≡◌, ◌⊎◌, inl, inr, ℕ, ◌+◌, ◌<◌, ◌≤◌, Bool, true, false, List, [], ◌∷◌, ◌++◌, length, get_or, take, drop, Result, Ok, Err, refl, sym, ap, ◌∙◌}
use Rattle.std.specs.Result.{IsErrAnd}
use Rattle.std.proofs.lemmas.List.{append-nil, append_assoc, length-take-le, take_more, take_all, drop_more, take-append-drop}
use Rattle.cube_model.specs.Answers.{Answers}
use Rattle.cube_model.specs.Checks.{check, in_turn, unless}
use Rattle.cube_tables.specs.Tables.{item_of}

-- ---- one after another

pub no_append : {X : Type 0} (xs ys : List X) → xs ++ ys ≡ [] → (xs ≡ []) × (ys ≡ [])
no_append [] ys h = (refl, h)
no_append (x ∷ xs) ys h = absurd (cc)

pub no_check : {F : Type 0} (b : Bool) (f : F) → check b f ≡ [] → b ≡ false
no_check true f h = absurd (cc)
no_check false f h = refl

-- nothing is found where the value is said
pub nothing : {F X : Type 0} (fs : List F) (x y : X) → unless fs x ≡ Ok y → fs ≡ []
nothing [] x y h = refl
nothing (f ∷ fs) x y h = absurd (cc)

pub value : {F X : Type 0} (fs : List F) (x y : X) → unless fs x ≡ Ok y → x ≡ y
value [] x y h = cc
value (f ∷ fs) x y h = absurd (cc)

-- the first fault, whatever is checked behind it
still_first : {F X Y : Type 0} (fs gs : List F) (x : X) (y : Y) (e : F) → unless fs x ≡ Err e → unless (fs ++ gs) y ≡ Err e
still_first [] gs x y e h = absurd (cc)
still_first (f ∷ fs) gs x y e h = let same : f ≡ e = cc in ap (λ g. Err g) same

-- what was answered in place of a value: want of memory or the first fault
abbrev pub Refused : {F : Type 0} → F → F → List F → Type 0
Refused no_memory e fs = (e ≡ no_memory) ⊎ (unless fs (tt {0}) ≡ Err e)

pub refused : {F X : Type 0} (no_memory e : F) (fs : List F) (x : X) → (e ≡ no_memory) ⊎ (unless fs x ≡ Err e) → Refused no_memory e fs
refused no_memory e fs x (inl m) = inl m
refused no_memory e [] x (inr h) = absurd (cc)
refused no_memory e (f ∷ fs) x (inr h) = let same : f ≡ e = cc in inr (ap (λ g. Err g) same)

pub answered : {F X : Type 0} (no_memory e : F) (fs : List F) (x : X) → Refused no_memory e fs → (e ≡ no_memory) ⊎ (unless fs x ≡ Err e)
answered no_memory e fs x (inl m) = inl m
answered no_memory e [] x (inr h) = absurd (cc)
answered no_memory e (f ∷ fs) x (inr h) = let same : f ≡ e = cc in inr (ap (λ g. Err g) same)

pub first : {F : Type 0} (no_memory e : F) (fs gs : List F) → Refused no_memory e fs → Refused no_memory e (fs ++ gs)
first no_memory e fs gs (inl m) = inl m
first no_memory e fs gs (inr h) = inr (still_first fs gs (tt {0}) (tt {0}) e h)

pub next : {F : Type 0} (no_memory e : F) (fs gs : List F) → fs ≡ [] → Refused no_memory e gs → Refused no_memory e (fs ++ gs)
next no_memory e fs gs none h = rw none h

pub both_nothing : {X : Type 0} (xs ys : List X) → xs ≡ [] → ys ≡ [] → xs ++ ys ≡ []
both_nothing xs ys a b = rw (a, b) refl

pub check_fault : {F : Type 0} (no_memory f e : F) (b : Bool) → b ≡ true → f ≡ e → Refused no_memory e (check b f)
check_fault no_memory f e b h same = inr (rw (h, same) refl)

pub check_none : {F : Type 0} (f : F) (b : Bool) → b ≡ false → check b f ≡ []
check_none f b h = rw h refl

-- what an error that is handed on by `?` says
pub handed_on : {F Y : Type 0} (no_memory : F) (r : Result Y F) (e : F) (fs : List F) (y : Y) → IsErrAnd r (λ f. f ≡ e) → Refused no_memory e fs → Answers no_memory r (unless fs y)
handed_on no_memory (Ok z) e fs y h k = absurd h
handed_on no_memory (Err f) e fs y h k = rw h (answered no_memory e fs y k)

-- where there is no fault, the value is said
pub accepted : {F X : Type 0} (fs : List F) (x y : X) → fs ≡ [] → x ≡ y → unless fs x ≡ Ok y
accepted fs x y none same = rw none (ap Ok same)

-- the answer of the last check, where those before it found nothing
pub last_answers : {F X : Type 0} (no_memory : F) (r : Result X F) (fs gs : List F) (x : X) → fs ≡ [] → Answers no_memory r (unless gs x) → Answers no_memory r (unless (fs ++ gs) x)
last_answers no_memory r fs gs x none h = rw none h

-- ---- in turn

-- the number of an item, counted from 1
pub item_number : {X : Type 0} (entry key : List ℕ) (xs : List X) (i : ℕ) → i ≤ length xs → item_of entry key (length (take i xs) + 1) ≡ item_of entry key (i + 1)
item_number entry key xs i l = ap (λ (n : ℕ). item_of entry key (n + 1)) (length-take-le i xs l)

module _ {X F : Type 0} (f : List X → X → List F) where
  in_turn-append : (before xs ys : List X) → in_turn f before (xs ++ ys) ≡ in_turn f before xs ++ in_turn f (before ++ xs) ys
  in_turn-append before [] ys = ap (λ b. in_turn f b ys) (sym (append-nil before))
  in_turn-append before (x ∷ xs) ys =
      ap (λ rest. f before x ++ rest) (in_turn-append (before ++ x ∷ []) xs ys)
      ∙ rw (append_assoc before (x ∷ []) xs, append_assoc (f before x) (in_turn f (before ++ x ∷ []) xs) (in_turn f (before ++ x ∷ xs) ys)) refl

  -- the items so far, then the one at hand, then the rest
  turn_parts : (xs : List X) (i : ℕ) (d : X) → i < length xs → in_turn f [] xs ≡ in_turn f [] (take i xs) ++ (f (take i xs) (get_or xs i d) ++ in_turn f (take i xs ++ get_or xs i d ∷ []) (drop (i + 1) xs))
  turn_parts xs i d l =
      ap (in_turn f []) (sym (take-append-drop i xs)) ∙ in_turn-append [] (take i xs) (drop i xs)
      ∙ ap (λ rest. in_turn f [] (take i xs) ++ in_turn f (take i xs) rest) (drop_more xs i d l)

  pub turn_fault : (no_memory e : F) (xs : List X) (i : ℕ) (d : X) → i < length xs → in_turn f [] (take i xs) ≡ [] → Refused no_memory e (f (take i xs) (get_or xs i d)) → Refused no_memory e (in_turn f [] xs)
  turn_fault no_memory e xs i d l none h =
      rw (turn_parts xs i d l) (next no_memory e (in_turn f [] (take i xs)) (f (take i xs) (get_or xs i d) ++ in_turn f (take i xs ++ get_or xs i d ∷ []) (drop (i + 1) xs)) none
      (first no_memory e (f (take i xs) (get_or xs i d)) (in_turn f (take i xs ++ get_or xs i d ∷ []) (drop (i + 1) xs)) h))

  pub turn_next : (xs : List X) (i : ℕ) (d : X) → i < length xs → in_turn f [] (take i xs) ≡ [] → f (take i xs) (get_or xs i d) ≡ [] → in_turn f [] (take (i + 1) xs) ≡ []
  turn_next xs i d l none h = rw (take_more xs i d l, in_turn-append [] (take i xs) (get_or xs i d ∷ []), none, h) refl

  pub turn_end : (xs : List X) (i : ℕ) → length xs ≤ i → in_turn f [] (take i xs) ≡ [] → in_turn f [] xs ≡ []
  turn_end xs i l none = rw (sym (take_all i xs l)) none

  pub turn_at : (xs : List X) (i : ℕ) (d : X) → i < length xs → in_turn f [] xs ≡ [] → f (take i xs) (get_or xs i d) ≡ []
  turn_at xs i d l none =
      let parts = no_append (in_turn f [] (take i xs)) (f (take i xs) (get_or xs i d) ++ in_turn f (take i xs ++ get_or xs i d ∷ []) (drop (i + 1) xs)) (sym (turn_parts xs i d l) ∙ none) in
      (no_append (f (take i xs) (get_or xs i d)) (in_turn f (take i xs ++ get_or xs i d ∷ []) (drop (i + 1) xs)) parts.1).0

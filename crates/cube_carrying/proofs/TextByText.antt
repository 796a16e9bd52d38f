-- Texts that are compared one by one.
use Rattle.std.proofs.Common.{◌≡◌, ℕ, ◌+◌, ◌<◌, ◌&&◌, Bool, true, false, List, ◌∷◌, length, drop, get_or, sym, ap, ap₂, ◌∙◌}
use Rattle.std.specs.Str.{bytes_eq}
use Rattle.std.proofs.lemmas.List.{drop_more}
use Rattle.cube_model.proofs.DimsFacts.{same-bytes_eq}
use Rattle.cube_model.proofs.Members.{tested}
use Rattle.cube_carry.specs.Continues.{same_texts}
use Rattle.cube_carry.proofs.Dimensions.{texts_eq}

pub uneven : (xs ys : List (List ℕ)) → (length xs ≡ length ys → ⊥) → false ≡ same_texts xs ys
uneven xs ys h = tested (same_texts xs ys) (λ t. absurd (h (ap length (texts_eq xs ys t)))) (λ f. sym f)

-- the rests of two lists begin with the texts that are looked at
rests : (xs ys : List (List ℕ)) (i : ℕ) (x y : List ℕ) → i < length xs → i < length ys → x ≡ get_or xs i x → y ≡ get_or ys i y
    → same_texts (drop i xs) (drop i ys) ≡ (bytes_eq x y && same_texts (drop (i + 1) xs) (drop (i + 1) ys))
rests xs ys i x y l k p q =
    ap₂ same_texts (drop_more xs i x l ∙ ap (λ z. z ∷ drop (i + 1) xs) (sym p)) (drop_more ys i y k ∙ ap (λ z. z ∷ drop (i + 1) ys) (sym q))
    ∙ ap (λ (b : Bool). b && same_texts (drop (i + 1) xs) (drop (i + 1) ys)) (same-bytes_eq x y)

pub texts_on : (xs ys : List (List ℕ)) (i : ℕ) (x y : List ℕ) (all : Bool) → i < length xs → i < length ys → x ≡ get_or xs i x → y ≡ get_or ys i y
    → bytes_eq x y ≡ true → same_texts (drop i xs) (drop i ys) ≡ all → same_texts (drop (i + 1) xs) (drop (i + 1) ys) ≡ all
texts_on xs ys i x y all l k p q e h = sym (rests xs ys i x y l k p q ∙ ap (λ (b : Bool). b && same_texts (drop (i + 1) xs) (drop (i + 1) ys)) e) ∙ h

pub texts_end : (xs ys : List (List ℕ)) (i : ℕ) (x y : List ℕ) (all : Bool) → i < length xs → i < length ys → x ≡ get_or xs i x → y ≡ get_or ys i y
    → bytes_eq x y ≡ false → same_texts (drop i xs) (drop i ys) ≡ all → false ≡ all
texts_end xs ys i x y all l k p q e h = sym (rests xs ys i x y l k p q ∙ ap (λ (b : Bool). b && same_texts (drop (i + 1) xs) (drop (i + 1) ys)) e) ∙ h

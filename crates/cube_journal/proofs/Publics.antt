-- Texts that are put together item by item.
use Rattle.std.proofs.Common.{◌≡◌, ℕ, zero, suc, ◌+◌, ◌<◌, List, [], ◌∷◌, ◌++◌, length, take, refl, sym, ◌∙◌, ap, arith, get_or, append_assoc}
use Rattle.std.specs.Prelude.{zip}
use Rattle.std.specs.List.{flat_map}
use Rattle.std.proofs.lemmas.Grind.{flat_map-append}
use Rattle.std.proofs.lemmas.List.{append-nil, take_more}

-- an item more
pub flat_more : {X : Type 0} (f : X → List ℕ) (xs : List X) (i : ℕ) (d : X) (old now new : List ℕ) → i < length xs → now ≡ old ++ flat_map f (take i xs) → new ≡ now ++ f (get_or xs i d) → new ≡ old ++ flat_map f (take (i + 1) xs)
flat_more f xs i d old now new lt so_far more =
    more ∙ ap (λ (l : List ℕ). l ++ f (get_or xs i d)) so_far ∙ append_assoc old (flat_map f (take i xs)) (f (get_or xs i d))
    ∙ ap (λ (l : List ℕ). old ++ (flat_map f (take i xs) ++ l)) (sym (append-nil (f (get_or xs i d))))
    ∙ ap (λ (l : List ℕ). old ++ l) (sym (flat_map-append f (take i xs) (get_or xs i d ∷ [])))
    ∙ ap (λ (l : List _). old ++ flat_map f l) (sym (take_more xs i d lt))

zip_next : {X Y : Type 0} (xs : List X) (ys : List Y) (i : ℕ) (d : X) (e : Y) → i < length xs → i < length ys → zip (take (suc i) xs) ys ≡ zip (take i xs) ys ++ (get_or xs i d, get_or ys i e) ∷ []
zip_next [] ys i d e lt lt' = absurd (omega (arith, lt))
zip_next (x ∷ xs) [] i d e lt lt' = absurd (omega (arith, lt'))
zip_next (x ∷ xs) (y ∷ ys) zero d e lt lt' = refl
zip_next (x ∷ xs) (y ∷ ys) (suc i) d e lt lt' = ap (λ (l : List _). (x, y) ∷ l) (zip_next xs ys i d e (omega (arith, lt)) (omega (arith, lt')))

-- an item more with what stands beside it
pub zip_more : {X Y : Type 0} (f : X × Y → List ℕ) (xs : List X) (ys : List Y) (i : ℕ) (d : X) (e : Y) (old now new : List ℕ) → i < length xs → i < length ys → now ≡ old ++ flat_map f (zip (take i xs) ys) → new ≡ now ++ f (get_or xs i d, get_or ys i e) → new ≡ old ++ flat_map f (zip (take (i + 1) xs) ys)
zip_more f xs ys i d e old now new lt lt' so_far more =
    let n : suc i ≡ i + 1 = omega arith in
    more ∙ ap (λ (l : List ℕ). l ++ f (get_or xs i d, get_or ys i e)) so_far ∙ append_assoc old (flat_map f (zip (take i xs) ys)) (f (get_or xs i d, get_or ys i e))
    ∙ ap (λ (l : List ℕ). old ++ (flat_map f (zip (take i xs) ys) ++ l)) (sym (append-nil (f (get_or xs i d, get_or ys i e))))
    ∙ ap (λ (l : List ℕ). old ++ l) (sym (flat_map-append f (zip (take i xs) ys) ((get_or xs i d, get_or ys i e) ∷ [])))
    ∙ ap (λ (l : List _). old ++ flat_map f l) (sym (zip_next xs ys i d e lt lt'))
    ∙ ap (λ (k : ℕ). old ++ flat_map f (zip (take k xs) ys)) n

-- the same, with the item by a name
pub zip_item : {X Y : Type 0} (f : X × Y → List ℕ) (xs : List X) (ys : List Y) (i : ℕ) (x : X) (e : Y) (old now new : List ℕ) → i < length xs → i < length ys → x ≡ get_or xs i x → now ≡ old ++ flat_map f (zip (take i xs) ys) → new ≡ now ++ f (x, get_or ys i e) → new ≡ old ++ flat_map f (zip (take (i + 1) xs) ys)
zip_item f xs ys i x e old now new lt lt' item so_far more = zip_more f xs ys i x e old now new lt lt' so_far (more ∙ ap (λ (z : _). now ++ f (z, get_or ys i e)) item)

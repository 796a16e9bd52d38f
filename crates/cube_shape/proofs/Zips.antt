-- Two lists side by side, one element more.
use Rattle.std.specs.Prelude.{zip}
use Rattle.std.proofs.Common.{◌≡◌, ℕ, zero, suc, ◌+◌, ◌<◌, ◌≤◌, List, [], ◌∷◌, ◌++◌, length, map, take, get_or, refl, sym, ap, ap₂, ◌∙◌, arith, add-one}
use Rattle.std.proofs.lemmas.List.{map-append, take_all}
use Rattle.serde_json.specs.Data.{Data}

zip_more : {A B : Type 0} (xs : List A) (ys : List B) (i : ℕ) (a : A) (b : B) → i < length xs → i < length ys → take (suc i) (zip xs ys) ≡ take i (zip xs ys) ++ (get_or xs i a, get_or ys i b) ∷ []
zip_more [] ys i a b l k = absurd (omega (arith, l))
zip_more (x ∷ xs) [] i a b l k = absurd (omega (arith, k))
zip_more (x ∷ xs) (y ∷ ys) zero a b l k = refl
zip_more (x ∷ xs) (y ∷ ys) (suc i) a b l k = ap (λ (zs : List _). (x, y) ∷ zs) (zip_more xs ys i a b (omega (arith, l)) (omega (arith, k)))

zip_long : {A B : Type 0} (xs : List A) (ys : List B) → length ys ≡ length xs → length (zip xs ys) ≡ length xs
zip_long [] ys e = refl
zip_long (x ∷ xs) [] e = e
zip_long (x ∷ xs) (y ∷ ys) e = ap suc (zip_long xs ys (omega (arith, e)))

-- the data of one pair more
pub data_more : {A B : Type 0} (f : A × B → Data) (xs : List A) (ys : List B) (i : ℕ) (a : A) (b : B) (made new : List Data) (d : Data) → i < length xs → length ys ≡ length xs → made ≡ map f (take i (zip xs ys)) → d ≡ f (get_or xs i a, get_or ys i b) → new ≡ made ++ d ∷ [] → new ≡ map f (take (i + 1) (zip xs ys))
data_more f xs ys i a b made new d l e so_far is grown =
    rw (add-one i) (grown ∙ ap₂ (λ (ds : List Data) (x : Data). ds ++ x ∷ []) so_far is ∙ sym (ap (map f) (zip_more xs ys i a b l (omega (arith, e, l))) ∙ map-append f (take i (zip xs ys)) ((get_or xs i a, get_or ys i b) ∷ [])))

pub data_all : {A B : Type 0} (f : A × B → Data) (xs : List A) (ys : List B) (i : ℕ) (made : List Data) → length xs ≤ i → length ys ≡ length xs → made ≡ map f (take i (zip xs ys)) → made ≡ map f (zip xs ys)
data_all f xs ys i made l e so_far = let long = zip_long xs ys e in so_far ∙ ap (map f) (take_all i (zip xs ys) (omega (arith, l, long)))

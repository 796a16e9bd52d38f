-- Texts that are read, one more at a time.
use Rattle.std.specs.Prelude.{IsOk}
use Rattle.std.specs.List.{All}
use Rattle.std.proofs.Common.{◌≡◌, ℕ, zero, suc, ◌+◌, ◌<◌, List, [], ◌∷◌, ◌++◌, length, map, get_or, take, Result, Ok, refl, sym, ap, ap₂, ◌∙◌, subst, arith}
use Rattle.std.proofs.lemmas.List.Elements.{All-append}
use Rattle.std.proofs.lemmas.List.{map_more, map-append}
use Rattle.cube_model.specs.declared.request.Request.{Request}
use Rattle.cube_query.specs.declared.fault.RequestFault.{RequestFault}

-- one element more
pub all_more : {X : Type 0} (P : X → Type 0) (xs new : List X) (x : X) → new ≡ xs ++ x ∷ [] → All P xs → P x → All P new
all_more P xs new x grown so_far here = subst (All P) (sym grown) (All-append P xs (x ∷ []) so_far one)
  where
    one : All P (x ∷ [])
    one zero d l = here
    one (suc k) d l = absurd (omega (arith, l))

module _ (f : List ℕ → Result Request RequestFault) where
  pub read_more : (texts : List (List ℕ)) (i : ℕ) (text : List ℕ) (rs new : List Request) (r : Request) → i < length texts → text ≡ get_or texts i text → map f (take i texts) ≡ map Ok rs → f text ≡ Ok r → new ≡ rs ++ r ∷ [] → map f (take (i + 1) texts) ≡ map Ok new
  read_more texts i text rs new r l at so_far read grown =
      map_more f texts i text l
      ∙ ap₂ (λ (ys : List (Result Request RequestFault)) (y : Result Request RequestFault). ys ++ y ∷ []) so_far (ap f (sym at) ∙ read)
      ∙ sym (ap (λ (ys : List Request). map Ok ys) grown ∙ map-append Ok rs (r ∷ []))

  -- each of texts that are read is read
  pub readable : (texts : List (List ℕ)) (i : ℕ) (text : List ℕ) → i < length texts → text ≡ get_or texts i text → (rs : List Request) → map f texts ≡ map Ok rs → IsOk (f text)
  readable [] i text l at rs h = absurd (omega (arith, l))
  readable (x ∷ xs) i text l at [] h = absurd (cc)
  readable (x ∷ xs) zero text l at (r ∷ rs) h = let is : f text ≡ Ok r = ap f at ∙ cc in subst IsOk (sym is) refl
  readable (x ∷ xs) (suc i) text l at (r ∷ rs) h = readable xs i text (omega (arith, l)) at rs cc

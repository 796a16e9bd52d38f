-- Links of places, one more.
use Rattle.std.proofs.Common.{◌≡◌, ℕ, inl, inr, List, [], ◌∷◌, ◌++◌, subst, ⊎_elim}
use Rattle.cube_model.specs.declared.link.Link.{Link}
use Rattle.cube_model.specs.Cubes.{IsIn}
use Rattle.cube_model.specs.LinkLaws.{IsOfPlaces, AreOfPlaces}
use Rattle.cube_model.proofs.Members.{IsIn-append}

pub one_more : (n : ℕ) (ls new : List Link) (l : Link) → AreOfPlaces n ls → IsOfPlaces n l → new ≡ ls ++ l ∷ [] → AreOfPlaces n new
one_more n ls new l all one is x k = ⊎_elim (λ h. all x h) last (IsIn-append x ls (l ∷ []) (subst (IsIn x) is k))
  where
    last : IsIn x (l ∷ []) → IsOfPlaces n x
    last (inl e) = subst (IsOfPlaces n) e one
    last (inr h) = absurd h

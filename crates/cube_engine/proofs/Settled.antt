-- What a crash leaves of a log whose bytes all stand on the disk.
use Rattle.std.proofs.Common.{◌≡◌, inl, inr, refl, sym, ap, ◌∙◌, subst, Ok, ℕ, List, [], ◌∷◌, ◌++◌}
use Rattle.std.proofs.lemmas.List.{append-nil}
use Rattle.cube_model.specs.declared.entry.Entry.{Entry}
use Rattle.cube_model.specs.declared.policy.Policy.{Policy}
use Rattle.cube_model.specs.Cores.{Core}
use Rattle.cube_model.specs.Cubes.{IsIn}
use Rattle.cube_io.specs.States.{State, IsImage, settled}
use Rattle.cube_engine.specs.Kept.{history_of, IsExact}

pub nothing : (xs ys : List ℕ) → xs ++ ys ≡ [] → xs ≡ []
nothing [] ys e = refl
nothing (x ∷ xs) ys e = absurd (cc)

-- it leaves all of them
pub settled_image : (bytes b : List ℕ) → IsImage (settled bytes) b → b ≡ bytes
settled_image bytes b image = go image.is_tail
  where
    go : IsIn (image.kept ++ image.lost) ([] ∷ []) → b ≡ bytes
    go (inl e) = image.whole ∙ ap (λ (k : List ℕ). bytes ++ k) (nothing image.kept image.lost (sym e)) ∙ append-nil bytes
    go (inr i) = absurd i

pub settled_leaves : (bytes : List ℕ) → IsImage (settled bytes) bytes
settled_leaves bytes = record { kept = []; lost = []; is_tail = inl refl; whole = sym (append-nil bytes) }

-- what they give back is just that history
pub settled_exact : (c : Core) (p : Policy) (bytes : List ℕ) (h : List Entry) (s : State) → s ≡ settled bytes → history_of c p bytes ≡ Ok h → IsExact c p h s
settled_exact c p bytes h s is recovers b image = ap (history_of c p) (settled_image bytes b (subst (λ (t : State). IsImage t b) is image)) ∙ recovers

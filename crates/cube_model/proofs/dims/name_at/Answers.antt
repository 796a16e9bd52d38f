use Rattle.std.proofs.Common.{◌≡◌, ℕ, zero, suc, List, [], ◌∷◌, get_or, None, sym, refl}
use Rattle.std.specs.List.{slice_get}
use Rattle.cube_model.proofs.dims.name_at.Goals as goal

get_or_none : (xs : List (List ℕ)) (i : ℕ) → None ≡ slice_get xs i → get_or xs i [] ≡ []
get_or_none [] i h = refl
get_or_none (x ∷ xs) zero h = absurd (cc)
get_or_none (x ∷ xs) (suc i) h = get_or_none xs i h

pub returns-in-None : goal.returns-in-None
returns-in-None c = sym (get_or_none c.args.path.now c.args.level (rw c.in-None.is at c.get.ensures))

use Rattle.std.proofs.Common.{◌≡◌, ℕ, List, [], ◌∷◌, get_or, None, sym, refl}
use Rattle.std.specs.List.{slice_get}
use Rattle.cube_carrying.proofs.paths.leaf_of.Goals as goal

get_or_none : (xs : List (List ℕ)) → None ≡ slice_get xs 0 → get_or xs 0 [] ≡ []
get_or_none [] h = refl
get_or_none (x ∷ xs) h = absurd (cc)

pub returns-in-None : goal.returns-in-None
returns-in-None c = sym (get_or_none c.args.path.now (rw c.in-None.is at c.get.ensures))

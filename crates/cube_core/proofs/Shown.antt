-- The rows of a core are those of its points.
use Rattle.std.proofs.Common.{◌≡◌, ◌∙◌, ℕ, ℤ, List, refl, ap, map, subst}
use Rattle.cube_model.specs.declared.policy.Policy.{Policy}
use Rattle.cube_model.specs.declared.request.Request.{Request}
use Rattle.cube_model.specs.Cores.{Core, shown}
use Rattle.cube_model.specs.Cubes.{key_at}
use Rattle.cube_model.specs.Dims.{Dims}
use Rattle.cube_model.specs.Requests.{is_picked, rows}
use Rattle.cube_core.specs.Grouping.{pointed}
use Rattle.cube_core.specs.Tallies.{AreTallies, summed_row}
use Rattle.cube_core.specs.declared.tally.Tally.{Tally}

same_shape : (c : Core) (r : Request) (p : Policy) → rows (shown (pointed c.dims c.shape.points) p) r ≡ rows (shown c p) r
unfolding key_at is_picked
same_shape c r p = refl

pub of_points : (c : Core) (s : Dims) (points : List (List ℕ)) (r : Request) (p : Policy) → s ≡ c.dims → points ≡ c.shape.points → rows (shown (pointed s points) p) r ≡ rows (shown c p) r
of_points c s points r p a b = ap (λ (x : Dims). rows (shown (pointed x points) p) r) a ∙ ap (λ (xs : List (List ℕ)). rows (shown (pointed c.dims xs) p) r) b ∙ same_shape c r p

-- so are its tallies
pub tallies_of_points : (c : Core) (s : Dims) (points : List (List ℕ)) (r : Request) (vs us : List ℤ) (ts : List Tally) → s ≡ c.dims → points ≡ c.shape.points → vs ≡ us → AreTallies (pointed s points) r vs ts → AreTallies c r us ts
tallies_of_points c s points r vs us ts a b e made =
    plain (subst (λ (x : Dims). AreTallies (pointed x c.shape.points) r us ts) a (subst (λ (xs : List (List ℕ)). AreTallies (pointed s xs) r us ts) b (subst (λ (xs : List ℤ). AreTallies (pointed s points) r xs ts) e made)))
  where
    plain : AreTallies (pointed c.dims c.shape.points) r us ts → AreTallies c r us ts
    plain own = record { marks = own.marks; rows = λ p. own.rows p ∙ ap (map (summed_row us)) (same_shape c r p) }

-- Up to how many facts objects protect the cell of a place.
use Rattle.std.specs.List.{list_any, fold}
use Rattle.std.specs.Prelude.{◌≡◌, ℕ, ◌<◌, Bool, ◌&&◌, ◌==◌, nat_lt, List, length, slice_index_or, if◌then◌else◌, Option, Some, None}
use Rattle.cube_model.specs.declared.answer.Row.{Row}
use Rattle.cube_model.specs.declared.policy.Object.{Object}
use Rattle.cube_model.specs.Cubes.{Public, is_finer}
use Rattle.cube_model.specs.Protection.{in_slice}
use Rattle.cube_source.specs.Few.{facts_at}

-- a number of facts that is given, or else one that no cell has
abbrev pub limit : Option ℕ → ℕ
limit None = 4294967295
limit (Some n) = n

-- the greater number
abbrev pub raised : ℕ → ℕ → ℕ
raised a b = if nat_lt a b then b else a

-- the limit of the object, where it is of the measure, stands at or above the cuboid and has the place in its slice
abbrev pub bound_of : Public → ℕ → List ℕ → ℕ → Object → ℕ
bound_of g m c i o = if o.measure == m && is_finer c o.levels && in_slice g o i then limit o.fewer else 0

-- the greatest of these limits
abbrev pub bound_over : Public → List Object → ℕ → List ℕ → ℕ → ℕ
bound_over g os m c i = fold (λ most o. raised most (bound_of g m c i o)) 0 os

-- a bound for each of so many places
pub record AreBounds (many : ℕ) (bound : ℕ → ℕ) (bounds : List ℕ) : Type 0 where
  pub long : length bounds ≡ many
  pub at : (k : ℕ) → k < many → slice_index_or bounds k 0 ≡ bound k

-- the facts of the row are below the bound of one of its places
abbrev pub is_below_bound : Public → List ℕ → Row → Bool
is_below_bound g bounds row = list_any (λ i. nat_lt (facts_at g row.places) (slice_index_or bounds i 0)) row.places

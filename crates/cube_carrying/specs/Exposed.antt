-- Where no object of a new cube stands over what an object of an old one protects, by the places that the old points have in the new.
use Rattle.std.specs.List.{list_any, list_all}
use Rattle.std.specs.Prelude.{◌≡◌, ℕ, Bool, true, length, not, ◌&&◌, List, slice_index_or}
use Rattle.cube_model.specs.declared.policy.Object.{Object}
use Rattle.cube_model.specs.Cores.{Core}
use Rattle.cube_model.specs.Cubes.{count_from, places}
use Rattle.cube_model.specs.Protection.{in_slice, is_guarded}
use Rattle.cube_carry.specs.Continues.{has_dimension, has_levels, has_paths, has_measure, has_point}
use Rattle.cube_carry.specs.Names.{Named, known, carried_levels}
use Rattle.cube_source.specs.Blocks.{bare}
use Rattle.cube_source.specs.Objects.{of_measure}
use Rattle.cube_carrying.specs.Shields.{is_shielded_over}

-- The second cube has all that it needs to continue the first but for the protected cells: the dimensions with their levels, each
-- path, each measure and each point.
pub record HasParts (a b : Named) : Type 0 where
  pub dimensions : list_all (has_dimension b.dims) a.dims.dimensions ≡ true
  pub no_other : list_all (has_dimension a.dims) b.dims.dimensions ≡ true
  pub levels : list_all (has_levels b.dims) a.dims.dimensions ≡ true
  pub paths : list_all (has_paths b.dims) a.dims.dimensions ≡ true
  pub measures : list_all (has_measure a b) (count_from 0 (length a.dims.measures)) ≡ true
  pub points : list_all (has_point a b) (places (known a)) ≡ true

-- the place is in the slice of the old object, and no new object of the measure at or above the levels that names no number of facts has
-- its new place in its slice
abbrev pub is_exposed_at : Core → Object → Core → List Object → ℕ → List ℕ → List ℕ → ℕ → Bool
is_exposed_at c o d os m levels at i = in_slice (bare c) o i && not (is_shielded_over (bare d) os m levels (slice_index_or at i 0))

-- so it is at some place, for the levels of the old object
abbrev pub is_exposed : Core → Core → List Object → ℕ → List ℕ → Object → Bool
is_exposed c d os m at o = list_any (is_exposed_at c o d os m (carried_levels c.dims d.dims o.levels) at) (places (bare c))

-- the place is guarded in the old cube, and its new place is not in the new one
abbrev pub is_unguarded_at : Core → List Object → ℕ → Core → List Object → ℕ → List ℕ → ℕ → Bool
is_unguarded_at c olds k d os m at i = is_guarded (bare c) (of_measure k olds) i && not (is_guarded (bare d) (of_measure m os) (slice_index_or at i 0))

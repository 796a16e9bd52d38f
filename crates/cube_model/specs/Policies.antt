-- The rules on a policy for dimensions and measures.
use Rattle.std.specs.Prelude.{◌≡◌, ◌⊎◌, ℕ, ◌<◌, ◌≤◌, true, ◌&&◌, nat_lt, Bool, List, [], ◌∷◌, length, map, slice_index_or, Some}
use Rattle.std.specs.List.{list_all}
use Rattle.cube_model.specs.declared.policy.Method.TheVariants.{Plain, Lattice, Parity}
use Rattle.cube_model.specs.declared.policy.Object.{Object}
use Rattle.cube_model.specs.declared.policy.Policy.{Policy}
use Rattle.cube_model.specs.declared.policy.Within.{Within}
use Rattle.cube_model.specs.Cubes.{Each, are_levels}
use Rattle.cube_model.specs.Dims.{Dims, plains, members, dimension_at}

-- each number is less than all later ones
abbrev pub are_rising : List ℕ → Bool
are_rising [] = true
are_rising (x ∷ xs) = list_all (nat_lt x) xs && are_rising xs

-- the rules on what a slice lists: one or more members of a named level, each once and in order
pub record IsWithin (s : Dims) (w : Within) : Type 0 where
  pub dimension : w.dimension < length s.dimensions
  pub level : w.level < length (dimension_at s w.dimension).levels
  pub some : 1 ≤ length w.members
  pub rising : are_rising w.members ≡ true
  pub in_range : Each (λ x. x < length (members (dimension_at s w.dimension) w.level)) w.members

-- the rules on an object: its measure is controlled, its slice goes through the dimensions in order, and where the measure is
-- under the parity rule it stands at the finest levels; a number of facts is 2 to 1,000
pub record IsObject (s : Dims) (p : Policy) (o : Object) : Type 0 where
  pub measure : o.measure < length s.measures
  pub levels : are_levels (plains s) o.levels ≡ true
  pub slice : Each (IsWithin s) o.slice
  pub in_turn : are_rising (map (λ w. w.dimension) o.slice) ≡ true
  pub method : (slice_index_or p.methods o.measure Plain ≡ Lattice) ⊎ ((slice_index_or p.methods o.measure Plain ≡ Parity) × (o.levels ≡ map (λ d. 0) s.dimensions))
  pub fewer : (n : ℕ) → o.fewer ≡ Some n → (2 ≤ n) × (n ≤ 1000)

-- the rules on a policy: a method for each measure, and at most 64 objects
pub record IsPolicy (s : Dims) (p : Policy) : Type 0 where
  pub methods : length p.methods ≡ length s.measures
  pub few : length p.objects ≤ 64
  pub objects : Each (IsObject s p) p.objects

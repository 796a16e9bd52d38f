-- Old cells that a new cube protects, and what is known of two cubes where they are looked for.
use Rattle.std.specs.List.{list_all, list_any, All}
use Rattle.std.specs.Prelude.{◌≡◌, ℕ, ◌<◌, Bool, true, List, length, slice_index_or}
use Rattle.cube_model.specs.declared.cell.Cell.{Cell}
use Rattle.cube_model.specs.declared.policy.Policy.{Policy}
use Rattle.cube_model.specs.Cores.{Core, shown}
use Rattle.cube_model.specs.Cubes.{are_levels, is_finer, covers}
use Rattle.cube_model.specs.Dims.{plains}
use Rattle.cube_model.specs.Policies.{IsPolicy}
use Rattle.cube_model.specs.Protection.{same_cell, core_cell, is_guarded, protected}
use Rattle.cube_carry.specs.Continues.{has_dimension}
use Rattle.cube_carry.specs.Names.{carried_levels, carried_cell}
use Rattle.cube_source.specs.Blocks.{bare}
use Rattle.cube_source.specs.Objects.{of_measure}
use Rattle.cube_carrying.specs.Shields.{is_shielded_over}

-- the new cube protects, on the measure, the cell with the names of an old one
abbrev pub is_kept : Core → Core → Policy → ℕ → Cell → Bool
is_kept c d q m t = list_any (same_cell (carried_cell c.dims d.dims t)) (protected (shown d q) m)

-- What is known of an old core, a new one that has its parts, the new policy and a measure of it, and the new places of the old points.
pub record Carries (c d : Core) (q : Policy) (m : ℕ) (at : List ℕ) : Type 0 where
  pub policy : IsPolicy d.dims q
  pub measure : m < length d.dims.measures
  pub no_other : list_all (has_dimension c.dims) d.dims.dimensions ≡ true
  pub long : length at ≡ length c.shape.points
  pub below : All (λ j. j < length d.shape.points) at
  pub levels : (ls : List ℕ) → are_levels (plains c.dims) ls ≡ true → are_levels (plains d.dims) (carried_levels c.dims d.dims ls) ≡ true
  pub finer : (x y : List ℕ) → are_levels (plains c.dims) x ≡ true → is_finer x y ≡ true → is_finer (carried_levels c.dims d.dims x) (carried_levels c.dims d.dims y) ≡ true

-- A cell is kept where the new place of one that it covers is in the slice of a new object at or above it that names no number of facts.
abbrev pub StandsSuffice : Core → Core → Policy → ℕ → List ℕ → Type 0
StandsSuffice c d q m at = (t : Cell) (i : ℕ) → are_levels (plains c.dims) t.levels ≡ true → i < length c.shape.points → covers (bare c) t i ≡ true
    → is_shielded_over (bare d) q.objects m (carried_levels c.dims d.dims t.levels) (slice_index_or at i 0) ≡ true → is_kept c d q m t ≡ true

-- A core cell is kept where the new place is guarded.
abbrev pub GuardsSuffice : Core → Core → Policy → ℕ → List ℕ → Type 0
GuardsSuffice c d q m at = (i : ℕ) → i < length c.shape.points → is_guarded (bare d) (of_measure m q.objects) (slice_index_or at i 0) ≡ true → is_kept c d q m (core_cell (bare c) i) ≡ true

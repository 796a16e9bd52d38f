-- The fact file of a cube reads back as the cube.
use Rattle.std.specs.Prelude.{◌≡◌, ℕ, ◌*◌, ◌<◌, ◌≤◌, List, ◌++◌, length, map, flat_map, Ok, ℤ, unsigned_abs}
use Rattle.cube_model.specs.declared.shape.Shape.{Shape}
use Rattle.cube_model.specs.Cores.{Core, IsCore}
use Rattle.cube_model.specs.Cubes.{count_from, Each}
use Rattle.cube_model.specs.Dims.{Dims}
use Rattle.cube_facts.specs.FactFile.{filled_of}
use Rattle.cube_witness.specs.Leaves.{leaf_names}
use Rattle.cube_witness.specs.TwinFile.{facts_at, value_at, share_text, facts_text}

-- ---- the records of a fact file

-- the fields of a fact
abbrev pub fact_fields : Dims → Shape → List (List ℤ) → ℕ → ℕ → List (List ℕ)
fact_fields s g cube i k = leaf_names s g i ++ map (share_text s g cube i k) (count_from 0 (length s.measures))

-- the records of a place
abbrev pub place_rows : Dims → Shape → List (List ℤ) → ℕ → List (List (List ℕ))
place_rows s g cube i = map (fact_fields s g cube i) (count_from 0 (facts_at g i))

-- the records behind the header
abbrev pub fact_rows : Dims → Shape → List (List ℤ) → List (List (List ℕ))
fact_rows s g cube = flat_map (place_rows s g cube) (count_from 0 (length g.points))

-- ---- the law

-- a cube of a core's dimensions and shape, in which each value can be carried by the facts of its place
pub record IsCarried (c : Core) (cube : List (List ℤ)) : Type 0 where
  pub rules : IsCore c
  pub measures : length cube ≡ length c.dims.measures
  pub long : Each (λ values. length values ≡ length c.shape.points) cube
  pub within : (m i : ℕ) → m < length c.dims.measures → i < length c.shape.points → unsigned_abs (value_at cube m i) ≤ 1000000000000 * facts_at c.shape i

-- the file is read as the same shape and the same cube
abbrev pub FilesReadBack : Type 0
FilesReadBack = (c : Core) (cube : List (List ℤ)) → IsCarried c cube → filled_of c.dims (facts_text c.dims c.shape cube) ≡ Ok (c.shape, cube)

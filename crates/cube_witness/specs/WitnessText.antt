-- The text of changes: a line of CSV for its header, and one for each change.
use Rattle.std.specs.Prelude.{ℕ, List, [], ◌∷◌, ◌++◌, flat_map, codes}
use Rattle.cube_model.specs.declared.change.Change.{Change}
use Rattle.cube_model.specs.declared.shape.Shape.{Shape}
use Rattle.cube_model.specs.Dims.{Dims}
use Rattle.cube_text.specs.Keys.{heads}
use Rattle.cube_text.specs.Quoting.{csv_line}
use Rattle.cube_text.specs.Units.{units_text}
use Rattle.cube_witness.specs.Leaves.{finest, leaf_names}

-- the finest levels, and the word `change`
abbrev pub change_header : Dims → List ℕ
change_header s = csv_line (heads s.dimensions (finest s) ++ codes "change" ∷ [])

-- the leaves of the place, and what is added there
abbrev pub change_line : Dims → Shape → Change → List ℕ
change_line s g c = csv_line (leaf_names s g c.place ++ units_text 0 c.by ∷ [])

-- the text of changes, which looks at no value of the cube
abbrev pub witness_text : Dims → Shape → List Change → List ℕ
witness_text s g changes = change_header s ++ flat_map (change_line s g) changes

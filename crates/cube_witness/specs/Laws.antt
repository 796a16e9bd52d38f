-- What holds of the changes and of twins.
use Rattle.std.specs.Prelude.{◌≡◌, ℕ, ◌<◌, List, length, ℤ, None, Ok}
use Rattle.cube_model.specs.declared.change.Change.{Change}
use Rattle.cube_model.specs.Cores.{Core, IsCore}
use Rattle.cube_model.specs.Cubes.{Public}
use Rattle.cube_model.specs.Twins.{moves}
use Rattle.cube_facts.specs.FactFile.{filled_of}
use Rattle.cube_witness.specs.TwinFile.{signs_of, twin_cube, facts_text, first_beyond}

-- the changes that are not 0, each put at its place, are all the changes
abbrev pub MovesAreChanges : Type 0
MovesAreChanges = (g : Public) (ch : List ℤ) → length ch ≡ length g.shape.points → signs_of (length g.shape.points) (moves g ch) ≡ ch

-- The fact file of a twin that is not beyond the bound is read as the same shape and the twin.
abbrev pub TwinsReadBack : Type 0
TwinsReadBack = (c : Core) (m : ℕ) (changes : List Change) → IsCore c → m < length c.dims.measures → first_beyond c.shape (twin_cube c m changes) m ≡ None
    → filled_of c.dims (facts_text c.dims c.shape (twin_cube c m changes)) ≡ Ok (c.shape, twin_cube c m changes)

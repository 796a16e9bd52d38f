-- The rows of a cuboid, and lists of cells.
use Rattle.std.specs.Prelude.{◌≡◌, ℕ, Bool, true, false, ◌&&◌, List, [], ◌∷◌, length}
use Rattle.cube_model.specs.declared.answer.Row.{Row}
use Rattle.cube_model.specs.declared.cell.Cell.{Cell}
use Rattle.cube_model.specs.Cores.{Core}
use Rattle.cube_model.specs.Protection.{same_cell}
use Rattle.cube_model.specs.Requests.{rows}
use Rattle.cube_source.specs.Blocks.{bare, whole, AreBlocks}

-- the rows of all places by their keys at a cuboid
pub record AreRows (c : Core) (levels : List ℕ) (found : List Row) : Type 0 where
  pub rows : found ≡ rows (bare c) (whole levels)
  pub places : AreBlocks (length c.shape.points) found

-- two lists of cells are one
abbrev pub same_cells : List Cell → List Cell → Bool
same_cells [] [] = true
same_cells [] (t ∷ ts) = false
same_cells (s ∷ ss) [] = false
same_cells (s ∷ ss) (t ∷ ts) = same_cell s t && same_cells ss ts

-- The least pair of places by which blocks part a cell.
use Rattle.std.specs.List.{fold}
use Rattle.std.specs.Prelude.{ℕ, not, nat_lt, List, find, Option, Some, None, if◌then◌else◌}
use Rattle.cube_model.specs.declared.answer.Row.{Row}
use Rattle.cube_model.specs.declared.cell.Cell.{Cell}
use Rattle.cube_model.specs.Cubes.{Public, covers}

abbrev pub both : Option ℕ → Option ℕ → Option (ℕ × ℕ)
both None o = None
both (Some i) None = None
both (Some i) (Some j) = Some (i, j)

-- the first covered one of the places of a block and the first other one
abbrev pub block_pair : Public → Cell → List ℕ → Option (ℕ × ℕ)
block_pair g t is = both (find (covers g t) is) (find (λ j. not (covers g t j)) is)

-- the one with the lesser covered place
abbrev pub lesser : Option (ℕ × ℕ) → Option (ℕ × ℕ) → Option (ℕ × ℕ)
lesser None o = o
lesser (Some e) None = Some e
lesser (Some e) (Some f) = if nat_lt f.0 e.0 then Some f else Some e

-- the least of the pairs of blocks
abbrev pub least_pair : Public → Cell → List Row → Option (ℕ × ℕ)
least_pair g t blocks = fold (λ least block. lesser least (block_pair g t block.places)) None blocks

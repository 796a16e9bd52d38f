-- The blocks of a source cuboid, each the places that it has together, and how cells lie in them.
use Rattle.std.specs.List.{list_any, All}
use Rattle.std.specs.Prelude.{◌≡◌, ℕ, ◌<◌, Bool, false, not, length, ◌&&◌, List, [], slice_index_or}
use Rattle.cube_model.specs.declared.answer.Row.{Row}
use Rattle.cube_model.specs.declared.cell.Cell.{Cell}
use Rattle.cube_model.specs.declared.policy.Policy.{Policy}
use Rattle.cube_model.specs.declared.request.Request.{Request}
use Rattle.cube_model.specs.declared.request.What.TheVariants.{Count}
use Rattle.cube_model.specs.Cores.{Core, shown}
use Rattle.cube_model.specs.Cubes.{Public, covers, together}
use Rattle.cube_model.specs.Protection.{listed}
use Rattle.cube_model.specs.Requests.{whole as all_of}
use Rattle.cube_core.specs.Rows.{ArePlaces}

-- a core where nothing is protected
abbrev pub no_policy : Policy
no_policy = record { methods = []; objects = [] }

abbrev pub bare : Core → Public
bare c = shown c no_policy

-- the request of all places by their keys at a cuboid
abbrev pub whole : List ℕ → Request
whole c = all_of Count c

-- the places do not all have one key at the cuboid
abbrev pub is_split : Public → List ℕ → List ℕ → Bool
is_split g c is = list_any (λ j. not (together g c (slice_index_or is 0 0) j)) is

-- the place stands in a block whose places do not all have one key at the cuboid
abbrev pub is_mixed : Public → List ℕ → List Row → ℕ → Bool
is_mixed g c blocks i = list_any (λ block. is_split g c block.places && listed i block.places) blocks

-- some block has a place that the cell covers and one that it does not
abbrev pub is_parted : Public → List Row → Cell → Bool
is_parted g blocks t = list_any (λ block. list_any (covers g t) block.places && list_any (λ j. not (covers g t j)) block.places) blocks

-- rows of places of a core that has so many
abbrev pub AreBlocks : ℕ → List Row → Type 0
AreBlocks many rows = All (λ row. ArePlaces many row.places) rows

-- a flag for each of so many places, set where the test passes
pub record AreFlags (many : ℕ) (test : ℕ → Bool) (flags : List Bool) : Type 0 where
  pub long : length flags ≡ many
  pub at : (k : ℕ) → k < many → slice_index_or flags k false ≡ test k

-- the cell of a row of all places
abbrev pub row_cell : List ℕ → Row → Cell
row_cell c row = record { levels = c; key = row.key }

-- The nonempty cells of a cuboid with their sums, and when they stand for a core.
use Rattle.std.specs.List.{list_all}
use Rattle.std.specs.Prelude.{◌≡◌, ℕ, ◌<◌, Bool, true, ◌&&◌, List, [], length, map, slice_index_or, ℤ, is_none}
use Rattle.cube_model.specs.declared.answer.AnswerRow.{AnswerRow}
use Rattle.cube_model.specs.declared.answer.Row.{Row}
use Rattle.cube_model.specs.declared.policy.Policy.{Policy}
use Rattle.cube_model.specs.declared.request.Request.{Request}
use Rattle.cube_model.specs.declared.request.What.TheVariants.{Measure}
use Rattle.cube_model.specs.Cores.{Core, IsCore, shown, world}
use Rattle.cube_model.specs.Cubes.{Public, World, are_levels, covered, in_order, key_at, places, point, same}
use Rattle.cube_model.specs.Dims.{Dims, plains}
use Rattle.cube_model.specs.Requests.{total, values, whole as all_of}
use Rattle.cube_core.specs.Rows.{ArePlaces}

-- A cuboid of a measure: its levels, its cells with their sums, and for each cell a point that it covers, from which the
-- members above those of its key are read.
pub record Cuboid : Type 0 where
  pub levels : List ℕ
  pub measure : ℕ
  pub cells : List AnswerRow
  pub points : List (List ℕ)

-- the keys of the nonempty cells at some levels, in lexicographic order
abbrev pub cell_keys : Public → List ℕ → List (List ℕ)
cell_keys g levels = in_order (map (key_at g levels) (places g))

-- the places that the cell with a key covers
abbrev pub covered_at : Public → List ℕ → List ℕ → List ℕ
covered_at g levels key = covered g (record { levels = levels; key = key })

-- the cell with a key, with the plain sum of a measure over the places that it covers
abbrev pub summed_cell : World → ℕ → List ℕ → List ℕ → AnswerRow
summed_cell w m levels key = record { key = key; sum = total (values w m) (covered_at w.shown levels key) }

-- the point of the first place that the cell with a key covers
abbrev pub first_point : Public → List ℕ → List ℕ → List ℕ
first_point g levels key = point g (slice_index_or (covered_at g levels key) 0 0)

-- The cuboid is one of the core: its cells are the nonempty cells of the core at its levels, in lexicographic order of
-- their keys, each with the plain sum of its measure over the places that it covers, and beside it the first point of these.
pub record IsCuboidOf (c : Core) (s : Cuboid) : Type 0 where
  pub rules : IsCore c
  pub levels : are_levels (plains c.dims) s.levels ≡ true
  pub measure : s.measure < length c.dims.measures
  pub cells : (p : Policy) → s.cells ≡ map (summed_cell (world c p) s.measure s.levels) (cell_keys (shown c p) s.levels)
  pub points : (p : Policy) → s.points ≡ map (first_point (shown c p) s.levels) (cell_keys (shown c p) s.levels)

-- the cuboid is one of some core with these dimensions and measures
abbrev pub StandsWith : Dims → Cuboid → Type 0
StandsWith s cuboid = (c : Core) × (c.dims ≡ s) × IsCuboidOf c cuboid

abbrev pub sums_of : List AnswerRow → List ℤ
sums_of cells = map (λ cell. cell.sum) cells

-- the request of all places by their keys at some levels
abbrev pub whole : ℕ → List ℕ → Request
whole m levels = all_of (Measure m) levels

-- the request groups at just these levels and picks nothing, so that its rows are the cells at them
abbrev pub takes_all : List ℕ → Request → Bool
takes_all levels r = same levels r.group && list_all is_none r.picks

-- a row of places of a core that has so many, at least one
pub record AreRowsOf (many : ℕ) (row : Row) : Type 0 where
  pub places : ArePlaces many row.places
  pub some : 0 < length row.places

-- the point of the first place of a row
abbrev pub first_of_row : Core → Row → List ℕ
first_of_row c row = slice_index_or c.shape.points (slice_index_or row.places 0 0) []

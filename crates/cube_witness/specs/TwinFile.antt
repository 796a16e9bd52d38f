-- The fact file of a cube, and the cube with changes added.
use Rattle.std.specs.Prelude.{ℕ, ◌*◌, nat_lt, Bool, List, [], ◌++◌, length, map, flat_map, find, fold, slice_index_or, slice_set, replicate, ℤ, pos, unsigned_abs, Option, Some, ◌≡◌, ⊤}
use Rattle.cube_model.specs.declared.change.Change.{Change}
use Rattle.cube_model.specs.declared.shape.Shape.{Shape}
use Rattle.cube_model.specs.Cores.{Core, world}
use Rattle.cube_model.specs.Cubes.{count_from}
use Rattle.cube_model.specs.Dims.{Dims, measure_at, column_names}
use Rattle.cube_model.specs.Twins.{twin}
use Rattle.cube_text.specs.Quoting.{csv_line}
use Rattle.cube_text.specs.Units.{units_text}
use Rattle.cube_witness.specs.Leaves.{leaf_names}
use Rattle.cube_witness.specs.Shares.{share}
use Rattle.cube_witness.specs.declared.twin.TwinFault.{TwinFault}
use Rattle.cube_witness.specs.declared.twin.TwinFault.TheVariants.{Beyond, NoMemory}

-- ---- the twin

abbrev pub set_sign : List ℤ → Change → List ℤ
set_sign signs c = slice_set signs c.place c.by

-- each change at its place, and 0 elsewhere
abbrev pub signs_of : ℕ → List Change → List ℤ
signs_of n changes = fold set_sign (replicate n (pos 0)) changes

-- the values of each measure, with the changes added to one
abbrev pub twin_cube : Core → ℕ → List Change → List (List ℤ)
twin_cube c m changes = (twin (world c (record { methods = []; objects = [] })) m (signs_of (length c.shape.points) changes)).cube

-- ---- a fact file

abbrev pub facts_at : Shape → ℕ → ℕ
facts_at g i = slice_index_or g.facts i 0

abbrev pub value_at : List (List ℤ) → ℕ → ℕ → ℤ
value_at cube m i = slice_index_or (slice_index_or cube m []) i (pos 0)

-- what one of the facts of a place carries of a measure, as a number with the measure's decimals
abbrev pub share_text : Dims → Shape → List (List ℤ) → ℕ → ℕ → ℕ → List ℕ
share_text s g cube i k m = units_text (measure_at s m).decimals (share (value_at cube m i) (facts_at g i) k)

-- the leaves of the place, and a number for each measure
abbrev pub fact_line : Dims → Shape → List (List ℤ) → ℕ → ℕ → List ℕ
fact_line s g cube i k = csv_line (leaf_names s g i ++ map (share_text s g cube i k) (count_from 0 (length s.measures)))

-- as many lines as the place has facts
abbrev pub place_lines : Dims → Shape → List (List ℤ) → ℕ → List ℕ
place_lines s g cube i = flat_map (fact_line s g cube i) (count_from 0 (facts_at g i))

-- the columns, then the facts of each place
abbrev pub facts_text : Dims → Shape → List (List ℤ) → List ℕ
facts_text s g cube = csv_line (column_names s) ++ flat_map (place_lines s g cube) (count_from 0 (length g.points))

-- ---- what no fact file has

-- more than 10^12 for each of so many facts
abbrev pub is_beyond : ℕ → ℤ → Bool
is_beyond n v = nat_lt (1000000000000 * n) (unsigned_abs v)

-- the first place where so many facts cannot carry the value
abbrev pub first_beyond : Shape → List (List ℤ) → ℕ → Option ℕ
first_beyond g cube m = find (λ i. is_beyond (facts_at g i) (value_at cube m i)) (count_from 0 (length g.points))

-- why there is no fact file: the value of this place is the first one beyond
abbrev pub IsRefused : Shape → List (List ℤ) → ℕ → TwinFault → Type 0
IsRefused g cube m (Beyond place) = first_beyond g cube m ≡ Some place
IsRefused g cube m NoMemory = ⊤

-- The cells that may be one person's: where a cuboid that can be released has cells in which each point has one fact alone.
use Rattle.std.specs.List.{list_all}
use Rattle.std.specs.Prelude.{ℕ, ◌==◌, Bool, List, [], ◌++◌, length, map, filter, flat_map, slice_index_or, codes, decimal, if◌then◌else◌}
use Rattle.cube_model.specs.declared.cell.Cell.{Cell}
use Rattle.cube_model.specs.declared.policy.Policy.{Policy}
use Rattle.cube_model.specs.Cores.{Core, shown}
use Rattle.cube_model.specs.Cubes.{Public, count_from, in_order, places, key_at, covered}
use Rattle.cube_model.specs.Dims.{Dims, measure_at}
use Rattle.cube_model.specs.Protection.{method, is_lattice}
use Rattle.cube_model.specs.Safe.{finest}
use Rattle.cube_text.specs.Quoting.{printed}
use Rattle.cube_answers.specs.VerdictText.{cuboid_text, bracketed}

-- The cells of a cuboid that are not empty, by key: each is the cell of some place, and stands once.
abbrev pub cells_of : Public → List ℕ → List Cell
cells_of g c = map (λ key. record { levels = c; key = key }) (in_order (map (key_at g c) (places g)))

-- the place has one fact and no more
abbrev pub has_one_fact : Public → ℕ → Bool
has_one_fact g i = slice_index_or g.shape.facts i 0 == 1

-- each place that the cell covers has one fact: at no point are there two whose values are added up
abbrev pub is_lone : Public → Cell → Bool
is_lone g t = list_all (has_one_fact g) (covered g t)

-- How many cells of the cuboid are not empty and have one fact alone at each point.
abbrev pub lone_count : Public → List ℕ → ℕ
lone_count g c = length (filter (is_lone g) (cells_of g c))

-- a number of cells
abbrev pub cells_text : ℕ → List ℕ
cells_text n = decimal n ++ (if n == 1 then codes " cell of " else codes " cells of ")

-- the line that says of a cuboid, by the name of the measure, how many of its cells may be one person's; nothing where there is none
abbrev pub lone_line : Dims → ℕ → List ℕ → ℕ → List ℕ
lone_line s m c n = if n == 0 then [] else printed (measure_at s m).name ++ codes ": " ++ cells_text n ++ bracketed (cuboid_text s c) ++ codes " may be one person's\n"

-- the lines on a measure: one for each of its finest safe cuboids that has such cells; none where it is not under the source rule
abbrev pub lone_lines : Dims → Public → ℕ → List ℕ
lone_lines s g m = if is_lattice (method g m) then flat_map (λ c. lone_line s m c (lone_count g c)) (finest g m) else []

-- The measures in their order.
abbrev pub lone_words : Core → Policy → List ℕ
lone_words core policy = flat_map (lone_lines core.dims (shown core policy)) (count_from 0 (length core.dims.measures))

-- The text of what can be released behind a history: the lines on lattice measures, how many links are held of each parity measure, and
-- how many requests there is room for.
use Rattle.std.specs.Prelude.{ℕ, List, [], ◌∷◌, ◌++◌, length, flat_map, codes, decimal}
use Rattle.cube_model.specs.declared.entry.Entry.{Entry}
use Rattle.cube_model.specs.declared.policy.Method.{Method}
use Rattle.cube_model.specs.declared.policy.Method.TheVariants.{Plain, Lattice, Parity}
use Rattle.cube_model.specs.Cubes.{Public, count_from}
use Rattle.cube_model.specs.Dims.{Dims, measure_at}
use Rattle.cube_model.specs.Protection.{method}
use Rattle.cube_model.specs.Verdicts.{source}
use Rattle.cube_text.specs.Counts.{count_line}
use Rattle.cube_text.specs.Quoting.{printed}
use Rattle.cube_advise.specs.Advice.{lattice_lines}
use Rattle.cube_advise.specs.Holdings.{links_held, most_links, room}

-- the line that says of a measure that so many links are held of so many
abbrev pub links_line : Dims → ℕ → ℕ → ℕ → List ℕ
links_line s m held most = codes "links " ++ printed (measure_at s m).name ++ 32 ∷ decimal held ++ codes " of " ++ decimal most ++ 10 ∷ []

-- the lines on a measure under a method
abbrev pub lines_by : Method → Dims → Public → List Entry → ℕ → List ℕ
lines_by Plain s g h m = []
lines_by Lattice s g h m = lattice_lines s g (source h m) m
lines_by Parity s g h m = links_line s m (links_held g h m) (most_links g m)

abbrev pub lines_behind : Dims → Public → List Entry → ℕ → List ℕ
lines_behind s g h m = lines_by (method g m) s g h m

-- The measures in their order, and the room behind them.
abbrev pub behind_text : Dims → Public → List Entry → List ℕ
behind_text s g h = flat_map (lines_behind s g h) (count_from 0 (length s.measures)) ++ count_line (codes "room") (room h)

-- The public shape of a cube, as JSON: its dimensions with all paths, its measures with their methods, and how many facts and points
-- there are. No value of the cube is among the arguments.
use Rattle.std.specs.Prelude.{ℕ, List, length, map, zip, sum, codes}
use Rattle.serde_json.specs.Data.{Data, object, array, string, number, unsigned, member, no_members}
use Rattle.serde_json.specs.View.{items_of}
use Rattle.serde_json.specs.Written.{compact_text}
use Rattle.cube_model.specs.declared.policy.Method.{Method}
use Rattle.cube_model.specs.declared.policy.Method.TheVariants.{Plain, Lattice, Parity}
use Rattle.cube_model.specs.Cubes.{Public}
use Rattle.cube_model.specs.Dims.{Dims, NamedDimension, NamedMeasure}

abbrev pub texts_data : List (List ℕ) → Data
texts_data ts = array (items_of (map string ts))

abbrev pub number_data : ℕ → Data
number_data n = number (unsigned n)

abbrev pub paths_data : List (List (List ℕ)) → Data
paths_data ps = array (items_of (map texts_data ps))

-- the levels from the finest on, the name, and for each leaf the names from itself upwards
abbrev pub dimension_data : NamedDimension → Data
dimension_data d = object (member (codes "levels") (texts_data d.levels) (member (codes "name") (string d.name) (member (codes "paths") (paths_data d.paths) no_members)))

-- the word of a method
abbrev pub method_word : Method → List ℕ
method_word Plain = codes "open"
method_word Lattice = codes "lattice"
method_word Parity = codes "parity"

-- the decimals, the method, and the name
abbrev pub measure_data : NamedMeasure × Method → Data
measure_data e = object (member (codes "decimals") (number_data (e.0).decimals) (member (codes "method") (string (method_word e.1)) (member (codes "name") (string (e.0).name) no_members)))

-- the keys stand in the order of their bytes
abbrev pub shape_data : Dims → Public → Data
shape_data s g =
    object (member (codes "dimensions") (array (items_of (map dimension_data s.dimensions)))
    (member (codes "facts") (number_data (sum g.shape.facts))
    (member (codes "measures") (array (items_of (map measure_data (zip s.measures g.policy.methods))))
    (member (codes "points") (number_data (length g.shape.points)) no_members))))

-- the text of the shape, without blanks and without a line feed
abbrev pub shape_text : Dims → Public → List ℕ
shape_text s g = compact_text (shape_data s g)

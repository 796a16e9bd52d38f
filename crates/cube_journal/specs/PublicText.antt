-- What everybody knows of a cube, as a text.
use Rattle.std.specs.Prelude.{ℕ, List, [], ◌∷◌, ◌++◌, codes, decimal, zip, Option, Some, None}
use Rattle.std.specs.List.{flat_map}
use Rattle.cube_model.specs.Dims.{Dims, NamedDimension, NamedMeasure, measure_at}
use Rattle.cube_model.specs.declared.policy.Method.{Method}
use Rattle.cube_model.specs.declared.policy.Method.TheVariants.{Plain, Lattice, Parity}
use Rattle.cube_model.specs.declared.policy.Object.{Object}
use Rattle.cube_model.specs.declared.policy.Policy.{Policy}
use Rattle.cube_model.specs.declared.policy.Within.{Within}
use Rattle.cube_model.specs.declared.shape.Shape.{Shape}
use Rattle.cube_text.specs.Quoting.{quoted}

-- names in quotes, each behind a blank
abbrev pub name_fields : List (List ℕ) → List ℕ
name_fields names = flat_map (λ name. 32 ∷ quoted name) names

-- numbers, each behind a blank
abbrev pub number_fields : List ℕ → List ℕ
number_fields numbers = flat_map (λ n. 32 ∷ decimal n) numbers

abbrev pub level_line : List ℕ → List ℕ
level_line name = codes "l" ++ name_fields (name ∷ []) ++ 10 ∷ []

abbrev pub path_line : List (List ℕ) → List ℕ
path_line path = codes "p" ++ name_fields path ++ 10 ∷ []

-- a line for the dimension, one for each level, one for each path
abbrev pub dimension_lines : NamedDimension → List ℕ
dimension_lines d = codes "d" ++ name_fields (d.name ∷ []) ++ 10 ∷ [] ++ flat_map level_line d.levels ++ flat_map path_line d.paths

abbrev pub method_word : Method → List ℕ
method_word Plain = codes " open\n"
method_word Lattice = codes " lattice\n"
method_word Parity = codes " parity\n"

abbrev pub measure_line : NamedMeasure × Method → List ℕ
measure_line e = codes "m" ++ name_fields ((e.0).name ∷ []) ++ number_fields ((e.0).decimals ∷ []) ++ method_word e.1

abbrev pub within_line : Within → List ℕ
within_line w = codes "s" ++ number_fields (w.dimension ∷ w.level ∷ []) ++ number_fields w.members ++ 10 ∷ []

-- a line for the number of facts, where the object names one
abbrev pub fewer_line : Option ℕ → List ℕ
fewer_line None = []
fewer_line (Some n) = codes "n" ++ number_fields (n ∷ []) ++ 10 ∷ []

-- a line for the object, one for its number of facts, and one for each dimension of its slice
abbrev pub object_lines : Dims → Object → List ℕ
object_lines s o = codes "o" ++ name_fields ((measure_at s o.measure).name ∷ []) ++ number_fields o.levels ++ 10 ∷ [] ++ fewer_line o.fewer ++ flat_map within_line o.slice

abbrev pub point_line : List ℕ × ℕ → List ℕ
point_line e = codes "f" ++ number_fields e.0 ++ number_fields (e.1 ∷ []) ++ 10 ∷ []

unfoldable pub public_text_of : Dims → Policy → Shape → List ℕ
public_text_of s p shape =
    flat_map dimension_lines s.dimensions
    ++ flat_map measure_line (zip s.measures p.methods)
    ++ flat_map (object_lines s) p.objects
    ++ flat_map point_line (zip shape.points shape.facts)

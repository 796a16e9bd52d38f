-- The text of what can be released: for each lattice measure its source, if any, and its finest open cuboids.
use Rattle.std.specs.Prelude.{ℕ, List, [], ◌∷◌, ◌++◌, length, flat_map, codes, if◌then◌else◌, Option, Some, None}
use Rattle.cube_model.specs.declared.entry.Entry.{Entry}
use Rattle.cube_model.specs.Cubes.{Public, count_from}
use Rattle.cube_model.specs.Dims.{Dims, measure_at}
use Rattle.cube_model.specs.Protection.{method, is_lattice}
use Rattle.cube_model.specs.Verdicts.{source}
use Rattle.cube_text.specs.Quoting.{printed}
use Rattle.cube_answers.specs.VerdictText.{cuboid_text, bracketed}
use Rattle.cube_advise.specs.Open.{finest_by}

-- a word and a cuboid, as refusals write it
abbrev pub cuboid_line : Dims → List ℕ → List ℕ → List ℕ
cuboid_line s word c = word ++ 32 ∷ bracketed (cuboid_text s c) ++ 10 ∷ []

abbrev pub source_lines : Dims → Option (List ℕ) → List ℕ
source_lines s None = []
source_lines s (Some c) = cuboid_line s (codes "source") c

-- a line for each listed cuboid, or one that says that there is none
abbrev pub safe_lines : Dims → List (List ℕ) → List ℕ
safe_lines s [] = codes "none\n"
safe_lines s (c ∷ cs) = flat_map (cuboid_line s (codes "safe")) (c ∷ cs)

abbrev pub measure_line : Dims → ℕ → List ℕ
measure_line s m = codes "measure " ++ printed (measure_at s m).name ++ 10 ∷ []

-- the lines on a lattice measure under a source
abbrev pub lattice_lines : Dims → Public → Option (List ℕ) → ℕ → List ℕ
lattice_lines s g kept m = measure_line s m ++ source_lines s kept ++ safe_lines s (finest_by g kept m)

-- the lines on a measure: none where it is not under the source rule
abbrev pub measure_lines : Dims → Public → List Entry → ℕ → List ℕ
measure_lines s g h m = if is_lattice (method g m) then lattice_lines s g (source h m) m else []

-- The measures in their order.
abbrev pub advice_text : Dims → Public → List Entry → List ℕ
advice_text s g h = flat_map (measure_lines s g h) (count_from 0 (length s.measures))

-- The line on what keeps a cube from continuing another, and on what stops a history.
use Rattle.std.specs.Prelude.{ℕ, List, [], ◌∷◌, ◌++◌, codes, slice_index_or}
use Rattle.cube_model.specs.Cubes.{Public}
use Rattle.cube_model.specs.Dims.{Dims, NamedDimension, dimension_at, measure_at}
use Rattle.cube_query.specs.Canonical.{level_text}
use Rattle.cube_text.specs.Quoting.{printed}
use Rattle.cube_answers.specs.VerdictText.{bracketed, cell_text, place_text}
use Rattle.cube_carrying.specs.declared.breach.Breach.{Breach}
use Rattle.cube_carrying.specs.declared.breach.Breach.TheVariants.{NoDimension, OtherDimension, OtherLevels, NoPath, NoMeasure, NoPoint, NotProtected}
use Rattle.cube_carrying.specs.declared.histories.Stop.{Stop}
use Rattle.cube_carrying.specs.declared.histories.Stop.TheVariants.{NoSource, Fixes}

-- the leaf of a path, which tells the path
abbrev pub leaf_text : NamedDimension → ℕ → List ℕ
leaf_text d p = bracketed (level_text d 0 ++ 61 ∷ printed (slice_index_or (slice_index_or d.paths p []) 0 []))

abbrev pub dimension_name : Dims → ℕ → List ℕ
dimension_name s d = printed (dimension_at s d).name

abbrev pub measure_name : Dims → ℕ → List ℕ
measure_name s m = printed (measure_at s m).name

-- The first of what the new cube lacks. The dims are those of the old cube and of the new one, and the third is what everybody knows of
-- the old cube.
abbrev pub breach_text : Dims → Dims → Public → Breach → List ℕ
breach_text s z g (NoDimension d) = codes "the dimension " ++ dimension_name s d ++ codes " is missing\n"
breach_text s z g (OtherDimension d) = codes "the dimension " ++ dimension_name z d ++ codes " is new\n"
breach_text s z g (OtherLevels d) = codes "the dimension " ++ dimension_name s d ++ codes " has other levels\n"
breach_text s z g (NoPath d p) = codes "the path of " ++ leaf_text (dimension_at s d) p ++ codes " is missing\n"
breach_text s z g (NoMeasure m) = codes "the measure " ++ measure_name s m ++ codes " is missing, or has other decimals or another method\n"
breach_text s z g (NoPoint i) = codes "the point " ++ bracketed (place_text s g i) ++ codes " is missing, or has other facts or values\n"
breach_text s z g (NotProtected m t) = measure_name s m ++ codes ": the cell " ++ bracketed (cell_text s t) ++ codes " is not protected\n"

-- The first thing that stops the history. The dims are those of the new cube.
abbrev pub stop_text : Dims → Stop → List ℕ
stop_text z (NoSource m) = measure_name z m ++ codes ": no cuboid can stand for the source\n"
stop_text z (Fixes m t) = measure_name z m ++ codes ": the carried links fix the cell " ++ bracketed (cell_text z t) ++ 10 ∷ []

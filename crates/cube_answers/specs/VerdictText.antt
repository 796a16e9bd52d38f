-- The text of a refusal, a line that names its rule.
use Rattle.std.specs.Prelude.{⊤, ◌≡◌, ◌<◌, ℕ, nat_lt, List, [], ◌∷◌, ◌++◌, length, codes, decimal, if◌then◌else◌}
use Rattle.cube_model.specs.declared.cell.Cell.{Cell}
use Rattle.cube_model.specs.declared.verdict.Verdict.{Verdict}
use Rattle.cube_model.specs.declared.verdict.Verdict.TheVariants.{Answer, Full, SourceWould, Pair, Single}
use Rattle.cube_model.specs.Cores.{Core, shown}
use Rattle.cube_model.specs.Cubes.{Public}
use Rattle.cube_model.specs.Dims.{Dims, NamedDimension, plains}
use Rattle.cube_model.specs.Protection.{core_cell}
use Rattle.cube_model.specs.Requests.{is_grouped}
use Rattle.cube_query.specs.Canonical.{level_text, member_text, by_texts, behind}
use Rattle.cube_text.specs.Keys.{KeyFits}

-- the levels of a cuboid that are not `all`, or the word `all`
abbrev pub cuboid_text : Dims → List ℕ → List ℕ
cuboid_text s levels = if is_grouped (plains s) levels then behind [] (by_texts s.dimensions levels) else codes "all"

-- the members of a key at these levels
abbrev pub key_texts : List NamedDimension → List ℕ → List ℕ → List (List ℕ)
key_texts [] ls xs = []
key_texts (d ∷ ds) [] xs = []
key_texts (d ∷ ds) (l ∷ ls) [] = []
key_texts (d ∷ ds) (l ∷ ls) (x ∷ xs) = (if nat_lt l (length d.levels) then (level_text d l ++ 61 ∷ member_text d l x) ∷ [] else []) ++ key_texts ds ls xs

abbrev pub cell_text : Dims → Cell → List ℕ
cell_text s t = if is_grouped (plains s) t.levels then behind [] (key_texts s.dimensions t.levels t.key) else codes "all"

-- what everybody knows of a core where nothing is protected
abbrev pub unprotected : Core → Public
unprotected c = shown c (record { methods = []; objects = [] })

-- the cell of one place
abbrev pub place_text : Dims → Public → ℕ → List ℕ
place_text s g i = cell_text s (core_cell g i)

-- a text between brackets
abbrev pub bracketed : List ℕ → List ℕ
bracketed x = 40 ∷ x ++ 41 ∷ []

-- The line that names the rule, or nothing for an answer. It has no cube among its arguments.
abbrev pub verdict_text : Dims → Public → Verdict → List ℕ
verdict_text s g (Answer fresh) = []
verdict_text s g (Full held) = codes "full: the history holds " ++ decimal held ++ codes " requests\n"
verdict_text s g (SourceWould levels cell) = codes "source: the cuboid " ++ bracketed (cuboid_text s levels) ++ codes " does not cut the cell " ++ bracketed (cell_text s cell) ++ 10 ∷ []
verdict_text s g (Pair k i j t) = codes "pair: link " ++ decimal k ++ codes ", " ++ bracketed (place_text s g i) ++ codes " and " ++ bracketed (place_text s g j) ++ codes ", fixes the cell " ++ bracketed (place_text s g t) ++ 10 ∷ []
verdict_text s g (Single k i t) = codes "single: link " ++ decimal k ++ codes ", " ++ bracketed (place_text s g i) ++ codes ", fixes the cell " ++ bracketed (place_text s g t) ++ 10 ∷ []

-- ---- what a verdict has to be

-- a cell of members that there are
pub record CellFits (s : Dims) (t : Cell) : Type 0 where
  pub levels : length t.levels ≡ length s.dimensions
  pub key : length t.key ≡ length s.dimensions
  pub there : KeyFits s t.levels t.key

-- what is named in a verdict is there
abbrev pub IsVerdict : Core → Verdict → Type 0
IsVerdict c (Answer fresh) = ⊤
IsVerdict c (Full held) = ⊤
IsVerdict c (SourceWould levels cell) = (length levels ≡ length c.dims.dimensions) × CellFits c.dims cell
IsVerdict c (Pair k i j t) = (i < length c.shape.points) × (j < length c.shape.points) × (t < length c.shape.points)
IsVerdict c (Single k i t) = (i < length c.shape.points) × (t < length c.shape.points)

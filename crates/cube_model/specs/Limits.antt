-- The words for what is limited.
use Rattle.std.specs.Prelude.{ℕ, List, ◌++◌, codes, decimal}
use Rattle.cube_model.specs.declared.limit.LimitKind.{LimitKind}
use Rattle.cube_model.specs.declared.limit.LimitKind.TheVariants.{Dimensions, Measures, Levels, Leaves, Cuboids, Decimals, Objects, Facts, Points, File}

-- the word for what a file has more of than is taken
abbrev pub limit_word : LimitKind → List ℕ
limit_word Dimensions = codes "dimensions"
limit_word Measures = codes "measures"
limit_word Levels = codes "levels"
limit_word Leaves = codes "leaves"
limit_word Cuboids = codes "cuboids"
limit_word Decimals = codes "decimals"
limit_word Objects = codes "objects"
limit_word Facts = codes "facts"
limit_word Points = codes "points"
limit_word File = codes "file"

-- the words of a fault that names a limit
abbrev pub limit_words : LimitKind → ℕ → List ℕ
limit_words which number = codes "limit " ++ limit_word which ++ codes " " ++ decimal number

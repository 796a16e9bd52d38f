-- The texts and the statuses of a run.
use Rattle.std.specs.Prelude.{ℕ, List, [], ◌++◌, codes, slice_index_or}
use Rattle.cube_words.specs.Words.{option_word}
use Rattle.cube_words.specs.declared.words.Usage.{Usage}
use Rattle.cube_words.specs.declared.words.Usage.TheVariants.{NoCommand, Wrong, Missing}

-- ---- wrong words, and texts about the program

abbrev pub usage_text : List (List ℕ) → Usage → List ℕ
usage_text words NoCommand = codes "usage: no command\n"
usage_text words (Wrong number) = codes "usage: " ++ slice_index_or words number [] ++ codes "\n"
usage_text words (Missing option) = codes "usage: missing " ++ option_word option ++ codes "\n"

abbrev pub version_text : List ℕ
version_text = codes "cube 0.1.0\n"

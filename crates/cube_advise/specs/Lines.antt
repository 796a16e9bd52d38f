-- The text of a workload: a line with its number and its word for each line of a file.
use Rattle.std.specs.Prelude.{ℕ, suc, Bool, ◌==◌, nat_le, List, [], ◌∷◌, ◌++◌, length, decimal}
use Rattle.std.specs.Str.Lines.{lines}
use Rattle.cube_model.specs.declared.entry.Entry.{Entry}
use Rattle.cube_model.specs.Cubes.{Public}
use Rattle.cube_model.specs.Dims.{Dims}
use Rattle.cube_advise.specs.declared.word.Word.{Word}
use Rattle.cube_advise.specs.Words.{words_of, word_text}

abbrev pub is_feed : ℕ → Bool
is_feed b = b == 10

-- the most lines of a workload
abbrev pub max_lines : ℕ
max_lines = 1000000

abbrev pub word_line : ℕ → Word → List ℕ
word_line n w = decimal n ++ 32 ∷ word_text w ++ 10 ∷ []

-- a line for each word, numbered from here on
abbrev pub numbered : ℕ → List Word → List ℕ
numbered n [] = []
numbered n (w ∷ ws) = word_line n w ++ numbered (suc n) ws

-- The lines of a text: a line feed ends one, and a carriage return before it is no part of it; what stands behind the last line feed is a
-- line where it has bytes. A workload has at most so many.
abbrev pub is_workload : List ℕ → Bool
is_workload text = nat_le (length (lines text)) max_lines

-- What a workload comes to behind a history.
abbrev pub workload_words : Dims → Public → List Entry → List ℕ → List ℕ
workload_words s g h text = numbered 1 (words_of s g h (lines text))

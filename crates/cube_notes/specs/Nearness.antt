-- Which names may have been meant by one that is unknown.
use Rattle.std.specs.Prelude.{◌⊎◌, ℕ, ◌+◌, ◌-◌, ◌/◌, ◌<◌, List, length, max}
use Rattle.std.specs.Str.{chars}
use Rattle.strsim.specs.Edits.{osa_table}

-- how many edits lead from one text to another: a character is put in, taken out or changed, or two beside one another change places
abbrev pub edits : List ℕ → List ℕ → ℕ
edits from to = (osa_table (chars from) (chars to)).last_row (length (chars to))

-- how many edits are still near: one for every three characters of the longer text
abbrev pub most_edits : List ℕ → List ℕ → ℕ
most_edits from to = max (length (chars from)) (length (chars to)) / 3

-- how far apart their lengths are
abbrev pub length_gap : List ℕ → List ℕ → ℕ
length_gap from to = (length (chars from) - length (chars to)) + (length (chars to) - length (chars from))

-- two texts are not near: their lengths lie further apart than most, or more edits lead from one to the other
abbrev pub AreFar : List ℕ → List ℕ → Type 0
AreFar from to = (most_edits from to < length_gap from to) ⊎ (most_edits from to < edits from to)

-- How bytes of a file are shown to a person.
use Rattle.std.specs.Prelude.{ℕ, ◌==◌, ◌||◌, nat_lt, min, List, ◌++◌, length, map, take, codes, decimal, if◌then◌else◌}
use Rattle.cube_notes.specs.declared.shown.TheConstants.{MOST}

-- the byte, or a question mark in the place of a control byte
abbrev pub plain_of : ℕ → ℕ
plain_of byte = if nat_lt byte 32 || (byte == 127) then 63 else byte

-- the bytes that are shown
abbrev pub shown_front : List ℕ → List ℕ
shown_front value = take (min (length value) MOST) value

-- these in quotes, with two points behind where there are more
abbrev pub shown_text : List ℕ → List ℕ
shown_text value = codes "\"" ++ map plain_of (shown_front value) ++ (if nat_lt MOST (length value) then codes "\".." else codes "\"")

-- a line behind what it is of
abbrev pub line_text : ℕ → List ℕ
line_text line = codes " line " ++ decimal line ++ codes ": "

-- the place of a note: the file and the line
abbrev pub place_text : List ℕ → ℕ → List ℕ
place_text name line = name ++ line_text line

-- the place of a note on a record: the file, the number that a report gives it, and the line in which it begins
abbrev pub row_text : List ℕ → ℕ → ℕ → List ℕ
row_text name row line = name ++ codes " row " ++ decimal row ++ codes " is" ++ line_text line

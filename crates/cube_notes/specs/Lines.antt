-- The lines of a file of records.
use Rattle.std.specs.Prelude.{ℕ, Bool, ◌+◌, ◌==◌, ◌||◌, ◌&&◌, not, List, [], ◌∷◌, if◌then◌else◌}

-- the byte behind another ends a line: it is a carriage return, or a line feed that is not the second half of a pair
abbrev pub ends_line : ℕ → ℕ → Bool
ends_line before byte = (byte == 13) || ((byte == 10) && not (before == 13))

-- how many lines end in bytes that stand behind another
abbrev pub ends_behind : ℕ → List ℕ → ℕ
ends_behind before [] = 0
ends_behind before (byte ∷ bytes) = (if ends_line before byte then 1 else 0) + ends_behind byte bytes

-- the line, from 1, in which the byte behind these stands
abbrev pub line_behind : List ℕ → ℕ
line_behind front = 1 + ends_behind 0 front

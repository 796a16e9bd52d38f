-- Lines of bytes.
use Rattle.std.specs.Prelude.{ℕ, ◌+◌, ◌≤◌, ◌==◌, Bool, List, length, take}
use Rattle.std.specs.List.{position_or_len}
use Rattle.cube_io.specs.declared.wire.Event.{Event}
use Rattle.cube_io.specs.declared.wire.Event.TheVariants as event

abbrev pub is_feed : ℕ → Bool
is_feed b = b == 10

-- its first line feed, where it has one, is its last byte
abbrev pub IsLine : List ℕ → Type 0
IsLine bytes = length bytes ≤ position_or_len is_feed bytes + 1

-- a piece has no line feed but at its end
abbrev pub GivesLine : Event → List ℕ → Type 0
GivesLine (event.Piece c n) buf = IsLine (take n buf)
GivesLine (event.Opened c) buf = Unit {0}
GivesLine (event.Closed c) buf = Unit {0}
GivesLine event.End buf = Unit {0}

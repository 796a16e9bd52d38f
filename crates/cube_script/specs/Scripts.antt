-- Scripts of connections: the events that their lines name, and the first line that is refused.
use Rattle.std.specs.Prelude.{ℕ, ◌+◌, ◌^◌, ◌==◌, Bool, not, ◌&&◌, ◌||◌, nat_eq, nat_lt, List, [], ◌∷◌, length, codes, if◌then◌else◌, Option, Some, None, Result, Ok, Err}
use Rattle.std.specs.List.{slice_split, starts_with}
use Rattle.std.specs.Option.{option_map}
use Rattle.std.specs.Result.{result_ok}
use Rattle.std.specs.Str.{bytes_eq}
use Rattle.std.specs.Str.Parse.{digits_value}
use Rattle.hex.specs.Hex.{decode_of}
use Rattle.cube_text.specs.Units.{is_digits}
use Rattle.cube_io.specs.Wires.{Arrival}
use Rattle.cube_io.specs.Wires.Arrival.{Opened, Came, Closed}

-- decimal digits, without a leading zero
abbrev pub is_decimal : List ℕ → Bool
is_decimal word = is_digits word && (not (starts_with nat_eq word (codes "0")) || (length word == 1))

-- the connection that a word names: a number below 2^32
abbrev pub connection_of : List ℕ → Option ℕ
connection_of word = if is_decimal word && nat_lt (digits_value 10 word) (2 ^ 32) then Some (digits_value 10 word) else None

-- from 1 to 65,536 bytes, each as two hexadecimal digits in either case
abbrev pub bytes_of : List ℕ → Option (List ℕ)
bytes_of word = if (length word == 0) || nat_lt 131072 (length word) then None else result_ok (decode_of word)

-- bytes on a connection, where both words say some
abbrev pub came_of : Option ℕ → Option (List ℕ) → Option Arrival
came_of None bytes = None
came_of (Some c) None = None
came_of (Some c) (Some bytes) = Some (Came c bytes)

-- the event that the words of a line name
abbrev pub event_of : List (List ℕ) → Option Arrival
event_of [] = None
event_of (kind ∷ []) = None
event_of (kind ∷ c ∷ []) =
    if bytes_eq kind (codes "open") then option_map Opened (connection_of c)
    else if bytes_eq kind (codes "close") then option_map Closed (connection_of c)
    else None
event_of (kind ∷ c ∷ digits ∷ []) = if bytes_eq kind (codes "data") then came_of (connection_of c) (bytes_of digits) else None
event_of (kind ∷ c ∷ digits ∷ word ∷ words) = None

-- the words of a line: what stands between its single spaces
abbrev pub words : List ℕ → List (List ℕ)
words line = slice_split (λ b. b == 32) line

-- what stands between the line feeds of a text: its lines, and last what stands behind the last line feed
abbrev pub lines : List ℕ → List (List ℕ)
lines text = slice_split (λ b. b == 10) text

-- the event of line n before the others, or the number of the first line that names none
abbrev pub with_event : ℕ → Option Arrival → Result (List Arrival) ℕ → Result (List Arrival) ℕ
with_event n None others = Err n
with_event n (Some e) (Ok es) = Ok (e ∷ es)
with_event n (Some e) (Err m) = Err m

-- the events of some lines, of which the first is line n; behind the last line feed nothing may stand
abbrev pub events_of : ℕ → List (List ℕ) → Result (List Arrival) ℕ
events_of n [] = Ok []
events_of n (last ∷ []) = if length last == 0 then Ok [] else Err n
events_of n (line ∷ next ∷ more) = with_event n (event_of (words line)) (events_of (n + 1) (next ∷ more))

-- the events of a script, or the number of the first line that is refused, counted from 1
abbrev pub script_of : List ℕ → Result (List Arrival) ℕ
script_of text = events_of 1 (lines text)

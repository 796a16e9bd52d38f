-- Flat fact files: columns of texts, and last a column of whole numbers; and the sums that lines ask for.
use Rattle.std.specs.Prelude.{ℕ, ◌+◌, ◌-◌, Bool, true, not, ◌&&◌, ◌||◌, ◌==◌, nat_lt, nat_le, List, [], ◌∷◌, ◌++◌, length, take, map, filter, codes, unwrap_or, if◌then◌else◌, Result, Err, ℤ, pos, ◌+ℤ◌}
use Rattle.std.specs.List.{list_any, slice_split}
use Rattle.std.specs.Str.{bytes_eq}
use Rattle.csv.specs.Reading.{strip_bom}
use Rattle.csv.specs.Records.{field_at}
use Rattle.cube_model.specs.Names.{begins_with_mark}
use Rattle.cube_model.specs.Checks.{check, in_turn, unless}
use Rattle.cube_model.specs.declared.limit.LimitKind.TheVariants as limit
use Rattle.cube_text.specs.Units.{units_of}
use Rattle.cube_facts.specs.Records.{records_of, most_facts, value_faults, ok_or_zero}
use Rattle.cube_facts.specs.declared.fault.FactsFault.{FactsFault}
use Rattle.cube_facts.specs.declared.fault.FactsFault.TheVariants as fault
use Rattle.cube_facts.specs.declared.flat.FlatReply.{FlatReply}
use Rattle.cube_facts.specs.declared.flat.FlatReply.TheVariants.{Sum, Fields, Quote}

-- a row: a field for each dimension column, and its value
pub record FlatRow : Type 0 where
  pub fields : List (List ℕ)
  pub value : ℤ

-- a flat file: how many dimension columns it has, and its rows
pub record Flat : Type 0 where
  pub width : ℕ
  pub rows : List FlatRow

-- ---- what a file says

abbrev pub last_field : List (List ℕ) → List ℕ
last_field fields = unwrap_or (field_at fields (length fields - 1)) []

-- the faults of a record behind so many: there are enough already, another number of fields than there are columns, no
-- number in the last column
abbrev pub row_faults : ℕ → List ℕ → ℕ → List (List ℕ) → List FactsFault
row_faults columns last earlier fields =
    check (nat_le most_facts earlier) (fault.Limit limit.Facts most_facts)
    ++ check (not (length fields == columns)) (fault.Fields (earlier + 1))
    ++ value_faults (earlier + 1) last (units_of 0 (last_field fields))

-- the faults of a record behind the earlier ones
abbrev pub flat_faults : List (List ℕ) → List (List (List ℕ)) → List (List ℕ) → List FactsFault
flat_faults header earlier fields = row_faults (length header) (last_field header) (length earlier) fields

abbrev pub flat_row : List (List ℕ) → FlatRow
flat_row fields = record { fields = take (length fields - 1) fields; value = ok_or_zero (units_of 0 (last_field fields)) }

-- the header has two columns or more
abbrev pub flat_in : List (List (List ℕ)) → Result Flat FactsFault
flat_in [] = Err fault.NoHeader
flat_in (header ∷ rows) = unless
    (check (nat_lt (length header) 2) fault.NoHeader ++ in_turn (flat_faults header) [] rows)
    (record { width = length header - 1; rows = map flat_row rows })

-- What the bytes of a flat file say, or their first fault. A file with a second byte order mark has no header.
unfoldable pub flat_of : List ℕ → Result Flat FactsFault
flat_of bytes = if begins_with_mark (strip_bom bytes) then Err fault.NoHeader else flat_in (records_of bytes)

-- ---- what a line asks for

-- a line cut at its commas
abbrev pub parts : List ℕ → List (List ℕ)
parts line = slice_split (λ b. b == 44) line

-- a part matches a field where it is the field, or a star
abbrev pub part_matches : List ℕ → List ℕ → Bool
part_matches part field = bytes_eq part (codes "*") || bytes_eq part field

-- each part matches the field at its place
abbrev pub matches : List (List ℕ) → List (List ℕ) → Bool
matches [] fields = true
matches (part ∷ more) [] = true
matches (part ∷ more) (field ∷ fields) = part_matches part field && matches more fields

-- the plain sum of the values of some rows
abbrev pub plain_sum : List FlatRow → ℤ
plain_sum [] = pos 0
plain_sum (row ∷ rows) = row.value +ℤ plain_sum rows

-- the sum over the rows that a line matches
abbrev pub sum_of : List (List ℕ) → List FlatRow → ℤ
sum_of asked rows = plain_sum (filter (λ row. matches asked row.fields) rows)

-- the reply to a line: no double quote may stand in it, and it has a part for each dimension column
abbrev pub reply_of : Flat → List ℕ → FlatReply
reply_of flat line =
    if list_any (λ b. b == 34) line then Quote
    else if length (parts line) == flat.width then Sum (sum_of (parts line) flat.rows)
    else Fields

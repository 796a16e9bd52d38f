-- The records of a file, and the numbers in them.
use Rattle.std.specs.Prelude.{ℕ, List, [], ◌∷◌, Result, Ok, Err, ℤ, pos}
use Rattle.csv.specs.Reading.{records, default_config, strip_bom}
use Rattle.cube_text.specs.declared.units.UnitFault.{UnitFault}
use Rattle.cube_facts.specs.declared.fault.FactsFault.{FactsFault}
use Rattle.cube_facts.specs.declared.fault.FactsFault.TheVariants as fault

-- the records of the bytes behind one byte order mark, in their order: fields between commas or in double quotes
abbrev pub records_of : List ℕ → List (List (List ℕ))
records_of bytes = records default_config (strip_bom bytes)

-- the most records behind a header
abbrev pub most_facts : ℕ
most_facts = 1000000

-- the fault of a number in a column
abbrev pub value_faults : ℕ → List ℕ → Result ℤ UnitFault → List FactsFault
value_faults row column (Ok value) = []
value_faults row column (Err cause) = fault.BadValue row column cause ∷ []

abbrev pub ok_or_zero : Result ℤ UnitFault → ℤ
ok_or_zero (Ok value) = value
ok_or_zero (Err cause) = pos 0

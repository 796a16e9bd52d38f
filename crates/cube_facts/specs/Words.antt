-- The words of a refused fact file.
use Rattle.std.specs.Prelude.{ℕ, List, ◌++◌, codes, decimal}
use Rattle.cube_model.specs.Limits.{limit_words}
use Rattle.cube_text.specs.declared.units.UnitFault.{UnitFault}
use Rattle.cube_text.specs.declared.units.UnitFault.TheVariants.{Syntax, TooFine, TooLarge}
use Rattle.cube_facts.specs.declared.fault.FactsFault.{FactsFault}
use Rattle.cube_facts.specs.declared.fault.FactsFault.TheVariants as fault

abbrev pub unit_words : UnitFault → List ℕ
unit_words Syntax = codes "not a number"
unit_words TooFine = codes "too fine"
unit_words TooLarge = codes "too large"

-- a field, by its row and column
abbrev pub at_field : ℕ → List ℕ → List ℕ
at_field row column = codes "row " ++ decimal row ++ codes " column " ++ column ++ codes ": "

abbrev pub fault_words : FactsFault → List ℕ
fault_words fault.NoHeader = codes "no header"
fault_words (fault.MissingColumn name) = codes "missing column " ++ name
fault_words (fault.ColumnTwice name) = codes "column " ++ name ++ codes " twice"
fault_words (fault.Fields row) = codes "row " ++ decimal row ++ codes " fields"
fault_words (fault.UnknownMember row column) = at_field row column ++ codes "unknown member"
fault_words (fault.BadValue row column cause) = at_field row column ++ unit_words cause
fault_words (fault.Limit which number) = limit_words which number
fault_words fault.NoMemory = codes "no memory"

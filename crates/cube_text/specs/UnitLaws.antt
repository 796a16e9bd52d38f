-- That numbers read back from their texts.
use Rattle.std.specs.Prelude.{◌≡◌, ◌≤◌, ℕ, ℤ, unsigned_abs, Ok}
use Rattle.cube_text.specs.Units.{max_units, units_of, units_text}

-- a value within the bound reads back from its text
abbrev pub UnitsRead : Type 0
UnitsRead = (decimals : ℕ) (value : ℤ) → decimals ≤ 6 → unsigned_abs value ≤ max_units → units_of decimals (units_text decimals value) ≡ Ok value

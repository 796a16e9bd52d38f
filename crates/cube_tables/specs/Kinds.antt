-- What can be wrong with the kind of a value in a table: it has to be there and of the kind, or of the kind where it is there.
-- A file has its own faults, of which `missing` and `wrong_kind` are two.
use Rattle.std.specs.Prelude.{ℕ, List, [], ◌∷◌, ◌++◌, Option, Some, None, is_none}
use Rattle.toml.specs.Data.{Data}
use Rattle.cube_model.specs.Checks.{check}
use Rattle.cube_tables.specs.Tables.{is_empty_array}

-- a value that has to be there
abbrev pub required_faults : {F X : Type 0} → (List ℕ → F) → (List ℕ → F) → (Data → Option X) → List ℕ → Option Data → List F
required_faults missing wrong_kind kind key None = missing key ∷ []
required_faults missing wrong_kind kind key (Some d) = check (is_none (kind d)) (wrong_kind key)

-- an array that has to be there, and not without items
abbrev pub list_faults : {F X : Type 0} → (List ℕ → F) → (List ℕ → F) → (Data → Option X) → List ℕ → Option Data → List F
list_faults missing wrong_kind kind key None = missing key ∷ []
list_faults missing wrong_kind kind key (Some d) = check (is_empty_array d) (missing key) ++ check (is_none (kind d)) (wrong_kind key)

-- a value that may be there
abbrev pub optional_faults : {F X : Type 0} → (List ℕ → F) → (Data → Option X) → List ℕ → Option Data → List F
optional_faults wrong_kind kind key None = []
optional_faults wrong_kind kind key (Some d) = check (is_none (kind d)) (wrong_kind key)

-- The records that are left of a text.
use Rattle.std.proofs.Common.{ℕ, suc, List, length}
use Rattle.csv.specs.declared.parser.State.{State}
use Rattle.csv.specs.Reading.{records_from, default_config}

-- those from a state between two records on
abbrev pub left_from : State → List ℕ → List (List (List ℕ))
left_from s xs = records_from default_config (suc (length xs)) s xs

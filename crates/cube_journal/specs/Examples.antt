-- The pay cube and what its journals recover.
use Rattle.std.specs.Prelude.{ℕ, List, [], ◌∷◌, ◌++◌, codes, Option, Some, None, Result, Ok, Err}
use Rattle.std.specs.List.{flat_map}
use Rattle.std.specs.Fmt.{decimal}
use Rattle.cube_model.specs.declared.entry.Entry.{Entry}
use Rattle.cube_model.specs.declared.entry.Entry.TheVariants.{Asked, Source, Linked}
use Rattle.cube_model.specs.declared.link.Link.TheVariants.{Pair, Single}
use Rattle.cube_model.specs.declared.policy.Method.TheVariants.{Lattice, Parity}
use Rattle.cube_model.specs.declared.policy.Policy.{Policy}
use Rattle.cube_model.specs.declared.shape.Shape.{Shape}
use Rattle.cube_dims.specs.Examples.{pay_dims}
use Rattle.cube_query.specs.Canonical.{request_text}
use Rattle.cube_journal.specs.Recovery.{recovered}
use Rattle.cube_journal.specs.declared.fault.JournalFault.{JournalFault}
use Rattle.cube_journal.specs.declared.fault.JournalFault.TheVariants as journal

abbrev pub pay_policy : Policy
pay_policy = record { methods = Lattice ∷ Parity ∷ []; objects = record { measure = 0; levels = 0 ∷ 0 ∷ []; slice = []; fewer = None } ∷ [] }

abbrev pub pay_shape : Shape
pay_shape = record { points = (0 ∷ 0 ∷ []) ∷ (0 ∷ 1 ∷ []) ∷ (1 ∷ 0 ∷ []) ∷ (2 ∷ 0 ∷ []) ∷ (2 ∷ 1 ∷ []) ∷ []; facts = 1 ∷ 1 ∷ 1 ∷ 1 ∷ 1 ∷ [] }

-- pay protected in the South wherever fewer than three facts stand
abbrev pub few_policy : Policy
few_policy = record { methods = Lattice ∷ Parity ∷ []; objects = record { measure = 0; levels = 2 ∷ 2 ∷ []; slice = record { dimension = 0; level = 1; members = 0 ∷ [] } ∷ []; fewer = Some 3 } ∷ [] }

-- digits of some digest
abbrev pub digits : List ℕ
digits = codes "0123456789abcdef0123456789abcdef0123456789abcdef0123456789abcdef"

abbrev pub said_entry : Entry → List ℕ
said_entry (Asked r) = codes "asked " ++ request_text pay_dims r ++ 10 ∷ []
said_entry (Source m levels) = codes "source " ++ decimal m ++ 10 ∷ []
said_entry (Linked m link) = codes "link " ++ decimal m ++ 10 ∷ []

abbrev pub said : Result (List Entry) JournalFault → List ℕ
said (Ok entries) = flat_map said_entry entries
said (Err (journal.Damaged line)) = codes "damaged " ++ decimal line
said (Err (journal.OtherCube kept now)) = codes "other cube"
said (Err journal.NoMemory) = codes "no memory"

-- what these bytes recover of the pay cube, in words
abbrev pub recovers : List ℕ → List ℕ
recovers bytes = said (recovered digits pay_dims pay_policy 5 bytes)

-- a source of pay, and two links of hours
abbrev pub compact_history : List Entry
compact_history = Source 0 (2 ∷ 0 ∷ []) ∷ Linked 1 (Pair 0 2) ∷ Linked 1 (Single 4) ∷ []

-- Two dimensions and two measures, and what is said of a fact file under them.
use Rattle.std.specs.Prelude.{ℕ, List, [], ◌∷◌, codes, Result, Ok, Err, ℤ}
use Rattle.cube_model.specs.Dims.{Dims}
use Rattle.cube_facts.specs.FactFile.{Fact, facts_of}
use Rattle.cube_facts.specs.Words.{fault_words}
use Rattle.cube_facts.specs.declared.fault.FactsFault.{FactsFault}

-- branches by area and months, pay with one decimal and hours
abbrev pub small_dims : Dims
small_dims = record {
  dimensions = (record {
    name = codes "region";
    column = codes "branch";
    levels = codes "branch" ∷ codes "area" ∷ [];
    paths = (codes "Lyon" ∷ codes "South" ∷ []) ∷ (codes "Paris" ∷ codes "North" ∷ []) ∷ [];
  }) ∷ (record {
    name = codes "time";
    column = codes "month";
    levels = codes "month" ∷ [];
    paths = (codes "Jan" ∷ []) ∷ (codes "Feb" ∷ []) ∷ [];
  }) ∷ [];
  measures = (record { name = codes "pay"; column = codes "pay"; decimals = 1 }) ∷ (record { name = codes "hours"; column = codes "hours"; decimals = 0 }) ∷ [];
}

abbrev pub fact : ℕ → ℕ → ℤ → ℤ → Fact
fact branch month pay hours = record { leaves = branch ∷ month ∷ []; units = pay ∷ hours ∷ [] }

abbrev pub words_of : Result (List Fact) FactsFault → List ℕ
words_of (Ok facts) = codes "accepted"
words_of (Err fault) = fault_words fault

-- the words of the first fault of a file
abbrev pub said : List ℕ → List ℕ
said bytes = words_of (facts_of small_dims bytes)

-- The pay cube of the worked examples: a fact at each point, pay under the source rule, each city's month of it protected.
use Rattle.std.specs.Prelude.{ℕ, List, [], ◌∷◌, None, pos}
use Rattle.cube_model.specs.declared.cell.Cell.{Cell}
use Rattle.cube_model.specs.declared.change.Change.{Change}
use Rattle.cube_model.specs.declared.entry.Entry.{Entry}
use Rattle.cube_model.specs.declared.entry.Entry.TheVariants.{Source}
use Rattle.cube_model.specs.declared.policy.Method.TheVariants.{Lattice, Parity}
use Rattle.cube_model.specs.declared.policy.Policy.{Policy}
use Rattle.cube_model.specs.Cores.{Core, shown}
use Rattle.cube_model.specs.Twins.{changes, moves}
use Rattle.cube_core.specs.Worked.{two, pay_core}
use Rattle.cube_witness.specs.TwinFile.{twin_cube, facts_text}
use Rattle.cube_witness.specs.WitnessText.{witness_text}

abbrev pub pay_cube : Core
pay_cube = record pay_core { shape = record { points = pay_core.shape.points; facts = 1 ∷ 1 ∷ 1 ∷ 1 ∷ 1 ∷ [] } }

abbrev pub pay_policy : Policy
pay_policy = record { methods = Lattice ∷ Parity ∷ []; objects = record { measure = 0; levels = two 0 0; slice = []; fewer = None } ∷ [] }

-- a city in a month
abbrev pub cell : ℕ → ℕ → Cell
cell city month = record { levels = two 0 0; key = two city month }

-- a history that leaves the sums by months as the source of pay
abbrev pub months : List Entry
months = Source 0 (two 2 0) ∷ []

-- the changes for a city in a month behind a history
abbrev pub pay_changes : List Entry → ℕ → ℕ → List Change
pay_changes h city month = moves (shown pay_cube pay_policy) (changes (shown pay_cube pay_policy) h 0 (cell city month))

abbrev pub witness_of : List Change → List ℕ
witness_of made = witness_text pay_cube.dims pay_cube.shape made

-- the fact file of the cube with changes added to pay
abbrev pub file_of : Core → List Change → List ℕ
file_of c made = facts_text c.dims c.shape (twin_cube c 0 made)

-- a cube with the most that one fact can carry at its first place
abbrev pub full_pay : Core
full_pay = record pay_cube { cube = (pos 1000000000000 ∷ pos 20 ∷ pos 30 ∷ pos 40 ∷ pos 50 ∷ []) ∷ (pos 1 ∷ pos 2 ∷ pos 3 ∷ pos 4 ∷ pos 5 ∷ []) ∷ [] }

-- The pay cube behind a history.
use Rattle.std.specs.Prelude.{ℕ, List, [], ◌∷◌, None, Some}
use Rattle.cube_model.specs.declared.ask.Ask.{Ask}
use Rattle.cube_model.specs.declared.ask.Question.{Question}
use Rattle.cube_model.specs.declared.entry.Entry.{Entry}
use Rattle.cube_model.specs.declared.policy.Method.TheVariants.{Plain, Lattice}
use Rattle.cube_model.specs.declared.policy.Policy.{Policy}
use Rattle.cube_model.specs.declared.request.Request.{Request}
use Rattle.cube_model.specs.declared.request.What.TheVariants.{Measure}
use Rattle.cube_model.specs.Cores.{world}
use Rattle.cube_model.specs.Rooms.{Room, alone}
use Rattle.cube_core.specs.Worked.{pay_core}
use Rattle.cube_answers.specs.Examples.{grouped}

-- pay is under the source rule, and each cell of a city in a month is protected; hours are open
abbrev pub pay_policy : Policy
pay_policy = record {
  methods = Lattice ∷ Plain ∷ [];
  objects = record { measure = 0; levels = 0 ∷ 0 ∷ []; slice = []; fewer = None } ∷ [];
}

-- the pay cube behind a history, as the one room of a desk
abbrev pub pay_rooms : List Entry → List Room
pay_rooms h = alone (world pay_core pay_policy) h

-- pay by month
abbrev pub months : Request
months = grouped (Measure 0) 2 0

-- asks of the server's own cube, and of a group
abbrev pub own : Question → Ask
own question = record { group = None; question = question }

abbrev pub of_group : List ℕ → Question → Ask
of_group name question = record { group = Some name; question = question }

-- Two asks of the pay cube under one policy, one behind the other.
use Rattle.std.specs.Prelude.{List, [], ◌∷◌, codes}
use Rattle.cube_model.specs.declared.ask.Question.TheVariants.{Query}
use Rattle.cube_model.specs.declared.outcome.Outcome.TheVariants.{Given, NoMemory}
use Rattle.cube_model.specs.declared.request.Request.{Request}
use Rattle.cube_model.specs.declared.request.What.TheVariants.{Measure}
use Rattle.cube_answers.specs.Examples.{grouped}
use Rattle.cube_engine.specs.Examples.{own, pay_policy}
use Rattle.cube_server.specs.Logs.{Call}
use Rattle.cube_starting.specs.Grouping.{GroupRun}

-- pay by area
abbrev pub areas : Request
areas = grouped (Measure 0) 1 2

-- pay by month is answered, and pay by area behind it is refused
abbrev pub two_calls : List Call
two_calls =
    record { ask = own (Query (codes "slice pay by time.month")); outcome = Given }
    ∷ record { ask = own (Query (codes "slice pay by region.area")); outcome = Given }
    ∷ []

-- there is no memory for pay by month
abbrev pub one_spared : List Call
one_spared = record { ask = own (Query (codes "slice pay by time.month")); outcome = NoMemory } ∷ []

-- the cube by itself, before it was asked anything
abbrev pub pay_run : GroupRun
pay_run = record { name = []; policy = pay_policy; first = []; last = [] }

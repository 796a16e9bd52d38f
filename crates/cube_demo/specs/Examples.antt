-- Requests over the pay cube, where each city's month of pay is protected and so is each place of hours.
use Rattle.std.specs.Prelude.{List, [], ◌∷◌}
use Rattle.cube_model.specs.declared.request.Request.{Request}
use Rattle.cube_model.specs.declared.request.What.TheVariants.{Measure}
use Rattle.cube_model.specs.Cores.{shown}
use Rattle.cube_model.specs.Cubes.{Public}
use Rattle.cube_answers.specs.Examples.{grouped}
use Rattle.cube_witness.specs.Examples.{pay_cube, pay_policy}

abbrev pub pay : Public
pay = shown pay_cube pay_policy

-- pay by month, pay by area, and hours of each city in each month
abbrev pub by_month : Request
by_month = grouped (Measure 0) 2 0

abbrev pub by_area : Request
by_area = grouped (Measure 0) 1 2

abbrev pub each_hours : Request
each_hours = grouped (Measure 1) 0 0

-- pay by month is asked twice
abbrev pub asked : List Request
asked = by_month ∷ by_area ∷ by_month ∷ each_hours ∷ []

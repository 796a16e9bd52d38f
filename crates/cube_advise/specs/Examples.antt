-- Pay by a source, each city's month protected, and hours by links.
use Rattle.std.specs.Prelude.{List, [], ◌∷◌, None, Some, pos}
use Rattle.cube_model.specs.declared.entry.Entry.{Entry}
use Rattle.cube_model.specs.declared.entry.Entry.TheVariants.{Asked}
use Rattle.cube_model.specs.declared.policy.Method.TheVariants.{Lattice, Parity}
use Rattle.cube_model.specs.declared.policy.Policy.{Policy}
use Rattle.cube_model.specs.declared.request.What.TheVariants.{Measure}
use Rattle.cube_model.specs.Cores.{Core, shown}
use Rattle.cube_model.specs.Cubes.{Public}
use Rattle.cube_core.specs.Worked.{pay_core}

abbrev pub pay_policy : Policy
pay_policy = record { methods = Lattice ∷ Parity ∷ []; objects = record { measure = 0; levels = 0 ∷ 0 ∷ []; slice = []; fewer = None } ∷ [] }

abbrev pub pay_shown : Public
pay_shown = shown pay_core pay_policy

-- the same with one fact alone
abbrev pub lone_core : Core
lone_core = record {
  dims = pay_core.dims;
  shape = record { points = (0 ∷ 0 ∷ []) ∷ []; facts = 1 ∷ [] };
  cube = (pos 10 ∷ []) ∷ (pos 1 ∷ []) ∷ [];
}

-- pay by month was answered
abbrev pub months : List Entry
months = Asked (record { what = Measure 0; group = 2 ∷ 0 ∷ []; picks = None ∷ None ∷ [] }) ∷ []

-- hours of Lyon and Nice in January were answered, in one sum: one pair
abbrev pub hours : List Entry
hours = Asked (record { what = Measure 1; group = 2 ∷ 2 ∷ []; picks = Some (record { level = 1; first = 0; last = 0 }) ∷ Some (record { level = 0; first = 0; last = 0 }) ∷ [] }) ∷ []

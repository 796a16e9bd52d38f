-- The pay cube of the worked example: a fact at each point, pay under the source rule and hours under the parity rule.
use Rattle.std.specs.Prelude.{[], ◌∷◌, None}
use Rattle.cube_model.specs.declared.policy.Method.TheVariants.{Lattice, Parity}
use Rattle.cube_model.specs.declared.policy.Policy.{Policy}
use Rattle.cube_model.specs.Cores.{Core}
use Rattle.cube_core.specs.Worked.{two, pay_core}

abbrev pub pay_cube : Core
pay_cube = record pay_core { shape = record { points = pay_core.shape.points; facts = 1 ∷ 1 ∷ 1 ∷ 1 ∷ 1 ∷ [] } }

abbrev pub pay_policy : Policy
pay_policy = record { methods = Lattice ∷ Parity ∷ []; objects = record { measure = 0; levels = two 0 0; slice = []; fewer = None } ∷ [] }

-- The policies of the tests.
use Rattle.std.specs.Prelude.{ℕ, zero, suc, ◌≡◌, ◌≤◌, ◌<◌, ⊤, List, [], ◌∷◌, map, Option, Some, None}
use Rattle.cube_model.specs.declared.policy.Method.{Method}
use Rattle.cube_model.specs.declared.policy.Method.TheVariants.{Plain, Lattice, Parity}
use Rattle.cube_model.specs.declared.policy.Object.{Object}
use Rattle.cube_model.specs.declared.policy.Policy.{Policy}
use Rattle.cube_model.specs.declared.policy.Within.{Within}
use Rattle.cube_fixtures.specs.declared.policies.Guard.{Guard}
use Rattle.cube_fixtures.specs.Worked.{two}

-- the slice of one area, or of the whole cube
abbrev pub within : Option ℕ → List Within
within None = []
within (Some area) = record { dimension = 0; level = 1; members = area ∷ [] } ∷ []

-- an object at a level of regions and at months, whatever the number of facts
abbrev pub object_of : Guard → Object
object_of g = record { measure = g.measure; levels = two g.level 0; slice = within g.area; fewer = None }

-- the methods of pay and of hours, with objects
abbrev pub policy_of : Method → Method → List Guard → Policy
policy_of pay hours guards = record { methods = pay ∷ hours ∷ []; objects = map object_of guards }

-- an area that there is, or none
abbrev pub IsArea : Option ℕ → Type 0
IsArea None = ⊤
IsArea (Some area) = area < 2

-- a method under which an object may stand at a level
abbrev pub CanHold : Method → ℕ → Type 0
CanHold Plain level = ⊥
CanHold Lattice level = level ≤ 2
CanHold Parity level = level ≡ 0

-- the method of pay or of hours, under which an object of theirs may stand at a level
abbrev pub CanHoldAt : Method → Method → ℕ → ℕ → Type 0
CanHoldAt pay hours zero level = CanHold pay level
CanHoldAt pay hours (suc zero) level = CanHold hours level
CanHoldAt pay hours (suc (suc n)) level = ⊥

-- an object that a policy of these methods may have
abbrev pub IsGuard : Method → Method → Guard → Type 0
IsGuard pay hours g = IsArea g.area × CanHoldAt pay hours g.measure g.level

-- one method for the one measure of rows and columns
abbrev pub field_policy : Policy
field_policy = record { methods = Parity ∷ []; objects = [] }

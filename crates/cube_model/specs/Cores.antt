-- What a fact file fills, with the bounds within which every sum fits, and the world that it makes under a policy.
use Rattle.std.specs.Prelude.{◌≡◌, ℕ, ◌*◌, ◌<◌, ◌≤◌, List, length, sum, slice_index_or, ℤ, pos, neg_ℤ, ◌≤ℤ◌}
use Rattle.cube_model.specs.declared.policy.Policy.{Policy}
use Rattle.cube_model.specs.declared.shape.Shape.{Shape}
use Rattle.cube_model.specs.Cubes.{Public, World, Each, IsPoint, IsIncreasing, IsWorld}
use Rattle.cube_model.specs.Dims.{Dims, IsDims, plains}

-- A core: dimensions and measures, the points with their numbers of facts, and for each measure a value at each point.
pub record Core : Type 0 where
  pub dims : Dims
  pub shape : Shape
  pub cube : List (List ℤ)

-- a sum of so many numbers of which none is above 10^12 in absolute value
abbrev pub IsSumOf : ℕ → ℤ → Type 0
IsSumOf n sum = (neg_ℤ (pos (1000000000000 * n)) ≤ℤ sum) × (sum ≤ℤ pos (1000000000000 * n))

-- each value is a sum of as many numbers as there are facts at its place
abbrev pub AreSumsOf : List ℕ → List ℤ → Type 0
AreSumsOf facts values = (i : ℕ) → i < length values → IsSumOf (slice_index_or facts i 0) (slice_index_or values i (pos 0))

-- The rules on a core: points are leaf vectors in increasing order with a fact each, and there is a value for each measure at each
-- of them; at most 65,536 points, at most 1,000,000 facts, and no value above 10^12 for each of its facts.
pub record IsCore (c : Core) : Type 0 where
  pub dims : IsDims c.dims
  pub points : Each (IsPoint (plains c.dims)) c.shape.points
  pub increasing : IsIncreasing c.shape.points
  pub few_points : length c.shape.points ≤ 65536
  pub facts : length c.shape.facts ≡ length c.shape.points
  pub counted : Each (λ n. 0 < n) c.shape.facts
  pub few_facts : sum c.shape.facts ≤ 1000000
  pub measures : length c.cube ≡ length c.dims.measures
  pub values : Each (λ values. length values ≡ length c.shape.points) c.cube
  pub bounded : Each (AreSumsOf c.shape.facts) c.cube

-- what everybody knows of a core under a policy
abbrev pub shown : Core → Policy → Public
shown c p = record { dimensions = plains c.dims; policy = p; shape = c.shape }

-- the world of a core under a policy
abbrev pub world : Core → Policy → World
world c p = record { shown = shown c p; cube = c.cube }

-- a core is a world under each policy that has a method for each measure
abbrev pub CoresAreWorlds : Type 0
CoresAreWorlds = (c : Core) (p : Policy) → IsCore c → length p.methods ≡ length c.dims.measures → IsWorld (world c p)

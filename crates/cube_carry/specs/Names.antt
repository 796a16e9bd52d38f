-- How what an old cube names is found in a new one.
use Rattle.std.specs.Prelude.{◌≡◌, ℕ, List, [], true, length, map, slice_index_or, ℤ}
use Rattle.cube_model.specs.declared.cell.Cell.{Cell}
use Rattle.cube_model.specs.declared.link.Link.{Link}
use Rattle.cube_model.specs.declared.link.Link.TheVariants.{Pair, Single}
use Rattle.cube_model.specs.declared.policy.Policy.{Policy}
use Rattle.cube_model.specs.declared.shape.Shape.{Shape}
use Rattle.cube_model.specs.Policies.{IsPolicy}
use Rattle.cube_model.specs.Cubes.{Each, are_levels, Public, World, IsWorld, place_of, places, point}
use Rattle.cube_model.specs.Cores.{Core, IsCore}
use Rattle.cube_model.specs.Dims.{Dims, NamedDimension, AreDistinct, plains, members, dimension_names, measure_names, dimension_at, measure_at}

-- What everybody knows of a cube, with its names: what carries a history over looks at nothing else.
pub record Named : Type 0 where
  pub dims : Dims
  pub policy : Policy
  pub shape : Shape

-- without the names
abbrev pub known : Named → Public
known a = record { dimensions = plains a.dims; policy = a.policy; shape = a.shape }

-- with a value for each measure at each point
abbrev pub world_of : Named → List (List ℤ) → World
world_of a values = record { shown = known a; cube = values }

-- what is known of a core under a policy
abbrev pub named : Core → Policy → Named
named c p = record { dims = c.dims; policy = p; shape = c.shape }

-- a world in which each dimension and each measure has a name of its own, and a policy with a method for each measure and with
-- objects at levels that there are
pub record IsNamed (a : Named) (values : List (List ℤ)) : Type 0 where
  pub world : IsWorld (world_of a values)
  pub dimensions : AreDistinct (dimension_names a.dims)
  pub measures : AreDistinct (measure_names a.dims)
  pub methods : length a.policy.methods ≡ length a.dims.measures
  pub objects : Each (λ o. are_levels (plains a.dims) o.levels ≡ true) a.policy.objects

-- the number that a dimension of other dims has, by its name
abbrev pub dimension_in : Dims → NamedDimension → ℕ
dimension_in s e = place_of e.name (dimension_names s)

-- the dimension of that name
abbrev pub same_dimension : Dims → NamedDimension → NamedDimension
same_dimension s e = dimension_at s (dimension_in s e)

-- the number that a measure of the first has in the second, by its name
abbrev pub measure_in : Dims → Dims → ℕ → ℕ
measure_in s z m = place_of (measure_at s m).name (measure_names z)

-- the number that a member of a level has in another dimension, by its name
abbrev pub carried_member : NamedDimension → NamedDimension → ℕ → ℕ → ℕ
carried_member d e l x = place_of (slice_index_or (members d l) x []) (members e l)

-- a level for each dimension, put into the order of the dimensions of the new cube
abbrev pub carried_levels : Dims → Dims → List ℕ → List ℕ
carried_levels s z c = map (λ e. slice_index_or c (dimension_in s e) 0) z.dimensions

-- the leaves with the same names
abbrev pub carried_point : Dims → Dims → List ℕ → List ℕ
carried_point s z x = map (λ e. carried_member (same_dimension s e) e 0 (slice_index_or x (dimension_in s e) 0)) z.dimensions

-- the cell with the same names
abbrev pub carried_cell : Dims → Dims → Cell → Cell
carried_cell s z t = record {
  levels = carried_levels s z t.levels;
  key = map (λ e. carried_member (same_dimension s e) e (slice_index_or t.levels (dimension_in s e) 0) (slice_index_or t.key (dimension_in s e) 0)) z.dimensions;
}

-- the place of the point with the same leaves
abbrev pub carried_place : Named → Named → ℕ → ℕ
carried_place a b i = place_of (carried_point a.dims b.dims (point (known a) i)) b.shape.points

-- a pair keeps the order of its places
abbrev pub carried_link : Named → Named → Link → Link
carried_link a b (Pair i j) = Pair (carried_place a b i) (carried_place a b j)
carried_link a b (Single i) = Single (carried_place a b i)

-- the places of the new cube that the old one had
abbrev pub old_places : Named → Named → List ℕ
old_places a b = map (carried_place a b) (places (known a))

-- A core under a policy for its dimensions and measures is such a world.
abbrev pub CoresAreNamed : Type 0
CoresAreNamed = (c : Core) (p : Policy) → IsCore c → IsPolicy c.dims p → IsNamed (named c p) c.cube

-- What is said of two cubes that are compared: the first thing that keeps the second from continuing the first, or nothing.
use Rattle.std.specs.List.{list_all}
use Rattle.std.specs.Prelude.{◌≡◌, ◌<◌, ℤ, true, List, [], ◌++◌, length, map, flat_map, slice_index_or, Option, Some, None}
use Rattle.cube_model.specs.Cubes.{places, IsIn}
use Rattle.cube_model.specs.Dims.{Dims, dimension_at}
use Rattle.cube_model.specs.Protection.{first, protected}
use Rattle.cube_carry.specs.Continues as continues
use Rattle.cube_carry.specs.Continues.{Continues, KeepsValues, breaches, failing, has_dimension, has_levels, has_path, has_paths}
use Rattle.cube_carry.specs.Continues.Breach.{NoDimension as LacksDimension, OtherDimension as HasDimension, OtherLevels as LacksLevels, NoPath as LacksPath, NoMeasure as LacksMeasure, NoPoint as LacksPoint, NotProtected as LacksCell}
use Rattle.cube_carry.specs.Names.{Named, known, carried_place}
use Rattle.cube_carrying.specs.declared.breach.Breach.{Breach}
use Rattle.cube_carrying.specs.declared.breach.Breach.TheVariants.{NoDimension, OtherDimension, OtherLevels, NoPath, NoMeasure, NoPoint, NotProtected}
use Rattle.cube_carrying.specs.declared.breach.Compared.{Compared}
use Rattle.cube_carrying.specs.declared.breach.Compared.TheVariants as compared

-- a breach with the names of what it is about
abbrev pub breach_of : Dims → Dims → Breach → continues.Breach
breach_of s z (NoDimension d) = LacksDimension (dimension_at s d).name
breach_of s z (OtherDimension d) = HasDimension (dimension_at z d).name
breach_of s z (OtherLevels d) = LacksLevels (dimension_at s d).name
breach_of s z (NoPath d p) = LacksPath (dimension_at s d).name (slice_index_or (dimension_at s d).paths p [])
breach_of s z (NoMeasure m) = LacksMeasure m
breach_of s z (NoPoint i) = LacksPoint i
breach_of s z (NotProtected m t) = LacksCell m t

-- what a breach is about is there
abbrev pub IsThere : Named → Named → Breach → Type 0
IsThere a b (NoDimension d) = d < length a.dims.dimensions
IsThere a b (OtherDimension d) = d < length b.dims.dimensions
IsThere a b (OtherLevels d) = d < length a.dims.dimensions
IsThere a b (NoPath d p) = (d < length a.dims.dimensions) × (p < length (dimension_at a.dims d).paths)
IsThere a b (NoMeasure m) = m < length a.dims.measures
IsThere a b (NoPoint i) = i < length a.shape.points
IsThere a b (NotProtected m t) = (m < length a.dims.measures) × IsIn t (protected (known a) m)

-- the second cube continues the first, and these are the places of the first one's points in it; or this is the first thing that keeps
-- it from that
abbrev pub IsComparedBy : Named → Named → List (List ℤ) → List (List ℤ) → Compared → Type 0
IsComparedBy a b old new (compared.Continues these) = Continues a b × KeepsValues a b old new × (these ≡ map (carried_place a b) (places (known a)))
IsComparedBy a b old new (compared.Differs why) = (first (breaches a b old new) ≡ Some (breach_of a.dims b.dims why)) × IsThere a b why

-- what keeps the second dimensions from being those of a cube that continues one with the first
abbrev pub dims_breaches : Dims → Dims → List continues.Breach
dims_breaches s z =
    map (λ d. LacksDimension d.name) (failing (has_dimension z) s.dimensions)
    ++ map (λ d. HasDimension d.name) (failing (has_dimension s) z.dimensions)
    ++ map (λ d. LacksLevels d.name) (failing (has_levels z) s.dimensions)
    ++ flat_map (λ d. map (LacksPath d.name) (failing (has_path z d) d.paths)) s.dimensions

-- the second have all dimensions of the first and no other, with their levels and their paths
pub record HasDims (s z : Dims) : Type 0 where
  pub dimensions : list_all (has_dimension z) s.dimensions ≡ true
  pub no_other : list_all (has_dimension s) z.dimensions ≡ true
  pub levels : list_all (has_levels z) s.dimensions ≡ true
  pub paths : list_all (has_paths z) s.dimensions ≡ true

-- a breach is about dimensions, and what it is about is there
abbrev pub IsInDims : Dims → Dims → Breach → Type 0
IsInDims s z (NoDimension d) = d < length s.dimensions
IsInDims s z (OtherDimension d) = d < length z.dimensions
IsInDims s z (OtherLevels d) = d < length s.dimensions
IsInDims s z (NoPath d p) = (d < length s.dimensions) × (p < length (dimension_at s d).paths)
IsInDims s z (NoMeasure m) = ⊥
IsInDims s z (NoPoint i) = ⊥
IsInDims s z (NotProtected m t) = ⊥

-- they have them, or this is the first thing that keeps them from it
abbrev pub AreDimsComparedBy : Dims → Dims → Option Breach → Type 0
AreDimsComparedBy s z None = HasDims s z
AreDimsComparedBy s z (Some why) = (first (dims_breaches s z) ≡ Some (breach_of s z why)) × IsInDims s z why

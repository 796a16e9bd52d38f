-- What two cubes are found to be, of what is found of their dimensions.
use Rattle.std.proofs.Common.{◌≡◌, List, Some, ℤ, subst}
use Rattle.cube_model.specs.Dims.{Dims}
use Rattle.cube_model.specs.Protection.{first}
use Rattle.cube_carry.specs.Continues.{breaches}
use Rattle.cube_carry.specs.Names.{Named}
use Rattle.cube_carrying.specs.Comparing.{HasDims, IsInDims, IsThere, dims_breaches, breach_of}
use Rattle.cube_carrying.specs.declared.breach.Breach.{Breach}
use Rattle.cube_carrying.specs.declared.breach.Breach.TheVariants.{NoDimension, OtherDimension, OtherLevels, NoPath, NoMeasure, NoPoint, NotProtected}
use Rattle.cube_carrying.proofs.Breached.{dims_first}

there : (a b : Named) (why : Breach) → IsInDims a.dims b.dims why → IsThere a b why
there a b (NoDimension d) h = h
there a b (OtherDimension d) h = h
there a b (OtherLevels d) h = h
there a b (NoPath d p) h = h
there a b (NoMeasure m) h = absurd h
there a b (NoPoint i) h = absurd h
there a b (NotProtected m t) h = absurd h

pub has_dims : (s z s' z' : Dims) → s ≡ s' → z ≡ z' → HasDims s z → HasDims s' z'
has_dims s z s' z' p q h = subst (λ (x : Dims). HasDims x z') p (subst (λ (y : Dims). HasDims s y) q h)

-- a breach that is found in the dimensions
pub record Found (s z : Dims) (why : Breach) : Type 0 where
  pub is_first : first (dims_breaches s z) ≡ Some (breach_of s z why)
  pub is_there : IsInDims s z why

found_in : (s z s' z' : Dims) (why : Breach) → s ≡ s' → z ≡ z' → Found s z why → Found s' z' why
found_in s z s' z' why p q h = subst (λ (x : Dims). Found x z' why) p (subst (λ (y : Dims). Found s y why) q h)

pub in_dims : (a b : Named) (old new : List (List ℤ)) (s z : Dims) (why : Breach) → s ≡ a.dims → z ≡ b.dims → Found s z why
    → (first (breaches a b old new) ≡ Some (breach_of a.dims b.dims why)) × IsThere a b why
in_dims a b old new s z why p q h = let f = found_in s z a.dims b.dims why p q h in (dims_first a b old new (breach_of a.dims b.dims why) f.is_first, there a b why f.is_there)

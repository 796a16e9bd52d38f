-- A core is a world.
use Rattle.std.proofs.Common.{◌≡◌, ℕ, ◌<◌, true, List, [], ◌∷◌, length, map, ◌==◌, sym, ◌∙◌, arith}
use Rattle.std.specs.List.{list_all, AllByRecursion}
use Rattle.std.proofs.lemmas.Bool.{eqb-true, and_parts}
use Rattle.cube_model.specs.Cubes.{Each, Dimension, IsHierarchy, distinct, names_at}
use Rattle.cube_model.specs.Dims.{NamedDimension, IsDimension, plain}
use Rattle.cube_model.specs.Cores.{CoresAreWorlds}

-- what each dimension keeps, its plain form keeps
each_plain : (P : Dimension → Type 0) → ((d : NamedDimension) → IsDimension d → P (plain d)) → (ds : List NamedDimension) → AllByRecursion IsDimension ds → Each P (map plain ds)
each_plain P f [] h = tt
each_plain P f (d ∷ ds) h = (f d h.0, each_plain P f ds h.1)

each_even : (n : ℕ) (paths : List (List (List ℕ))) → list_all (λ path. length path == n) paths ≡ true → Each (λ path. length path ≡ n) paths
each_even n [] h = tt
each_even n (p ∷ ps) h = let parts = and_parts (length p == n) (list_all (λ path. length path == n) ps) h in (eqb-true (length p) n parts.0, each_even n ps parts.1)

named : (d : NamedDimension) → IsDimension d → 0 < (plain d).levels
named d h = let some = h.has_levels in omega (arith, some)

even : (d : NamedDimension) → IsDimension d → Each (λ path. length path ≡ (plain d).levels) (plain d).paths
even d h = each_even (length d.levels) d.paths h.even

pub cores_are_worlds : CoresAreWorlds
cores_are_worlds c p h methods = record {
  named = each_plain (λ d. 0 < d.levels) named c.dims.dimensions h.dims.each_dimension;
  even = each_plain (λ d. Each (λ path. length path ≡ d.levels) d.paths) even c.dims.dimensions h.dims.each_dimension;
  leaves = each_plain (λ d. distinct (names_at d 0) ≡ names_at d 0) (λ d k. k.distinct_leaves) c.dims.dimensions h.dims.each_dimension;
  hierarchies = each_plain IsHierarchy (λ d k. k.one_parent) c.dims.dimensions h.dims.each_dimension;
  points = h.points;
  increasing = h.increasing;
  facts = h.facts;
  counted = h.counted;
  methods = methods ∙ sym h.measures;
  values = h.values;
}

-- Cores are worlds with names.
use Rattle.std.proofs.Common.{◌≡◌, true, List, [], ◌∷◌}
use Rattle.cube_model.specs.declared.policy.Object.{Object}
use Rattle.cube_model.specs.declared.policy.Policy.{Policy}
use Rattle.cube_model.specs.Cubes.{Each, are_levels}
use Rattle.cube_model.specs.Dims.{Dims, plains}
use Rattle.cube_model.specs.Policies.{IsObject}
use Rattle.cube_model.proofs.Filled.{cores_are_worlds}
use Rattle.cube_carry.specs.Names.{CoresAreNamed}

levels_of : (s : Dims) (p : Policy) (os : List Object) → Each (IsObject s p) os → Each (λ o. are_levels (plains s) o.levels ≡ true) os
levels_of s p [] e = tt
levels_of s p (o ∷ os) e = (e.0.levels, levels_of s p os e.1)

pub cores_are_named : CoresAreNamed
cores_are_named c p ok rules = record {
  world = cores_are_worlds c p ok rules.methods;
  dimensions = ok.dims.distinct_dimensions;
  measures = ok.dims.distinct_measures;
  methods = rules.methods;
  objects = levels_of c.dims p p.objects rules.objects;
}

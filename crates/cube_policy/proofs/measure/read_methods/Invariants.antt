use Rattle.std.proofs.Common.{◌≡◌, [], take, map}
use Rattle.cube_model.specs.Checks.{in_turn}
use Rattle.cube_model.specs.Dims.{NamedMeasure}
use Rattle.cube_policy.specs.PolicyFile.{unnamed, methods_of}
use Rattle.cube_policy.proofs.measure.read_methods.Given as goal

abbrev pub invariant-loop-measure : goal.invariant-loop-measure
invariant-loop-measure l = record {
  none : in_turn (unnamed l.declared) [] (take l.measure-index (map (λ (m : NamedMeasure). m.name) l.measures)) ≡ [];
  made : l.methods ≡ methods_of l.declared (take l.measure-index (map (λ (m : NamedMeasure). m.name) l.measures));
}

use Rattle.std.proofs.Common.{take}
use Rattle.std.specs.List.{flat_map, zip}
use Rattle.sha2.specs.Hashers.{Holds256}
use Rattle.cube_seal.specs.Values.{measure_bytes}
use Rattle.cube_seal.proofs.values.hash_values.Given as goal

abbrev pub invariant-measures : goal.invariant-measures
invariant-measures g l = Holds256 l.hasher (flat_map measure_bytes (take l.measure (zip l.core.dims.measures l.core.cube)))

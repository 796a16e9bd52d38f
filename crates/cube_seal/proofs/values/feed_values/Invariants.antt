use Rattle.std.proofs.Common.{ℕ, List, [], ◌++◌, take, get_or}
use Rattle.std.specs.List.{flat_map}
use Rattle.sha2.specs.Hashers.{Holds256}
use Rattle.cube_seal.specs.Values.{value_bytes}
use Rattle.cube_seal.proofs.values.feed_values.Given as goal

abbrev pub invariant-places : goal.invariant-places
invariant-places g l = (m : List ℕ) → Holds256 l.initial.hasher m → Holds256 l.hasher (m ++ flat_map value_bytes (take l.place (get_or l.core.cube l.measure [])))

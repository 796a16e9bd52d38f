-- The keys that each kind of table has.
use Rattle.std.specs.Prelude.{ℕ, List}
use Rattle.cube_policy.specs.PolicyFile.{file_keys, measure_keys, object_keys, within_keys}
use Rattle.cube_policy.specs.declared.keys.Kind.{Kind}
use Rattle.cube_policy.specs.declared.keys.Kind.TheVariants.{File, Measure, Object, Within}

abbrev pub known_keys : Kind → List (List ℕ)
known_keys File = file_keys
known_keys Measure = measure_keys
known_keys Object = object_keys
known_keys Within = within_keys

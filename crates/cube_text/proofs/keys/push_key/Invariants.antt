use Rattle.std.proofs.Common.{◌≡◌, ◌++◌, drop, flat_map}
use Rattle.cube_text.specs.Keys.{closed, key_names}
use Rattle.cube_text.proofs.keys.push_key.Given as goal

abbrev pub invariant-loop-d : goal.invariant-loop-d
invariant-loop-d l = l.text ++ flat_map closed (key_names (drop l.d l.dims.dimensions) (drop l.d l.levels) (drop l.d l.key)) ≡ l.fn.text ++ flat_map closed (key_names l.dims.dimensions l.levels l.key)

use Rattle.std.proofs.Common.{◌≡◌, ◌++◌, take, ◌∷◌}
use Rattle.std.specs.List.{flat_map}
use Rattle.cube_text.specs.Quoting.{doubled}
use Rattle.cube_text.proofs.names.push_between.Given as goal

abbrev pub invariant-loop-byte : goal.invariant-loop-byte
invariant-loop-byte l = l.text ≡ l.fn.text ++ (34 ∷ flat_map doubled (take l.byte-index l.name))

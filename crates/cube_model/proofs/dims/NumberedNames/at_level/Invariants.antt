use Rattle.std.proofs.Common.{◌≡◌, [], map, take, slice_index_or}
use Rattle.cube_model.proofs.dims.NumberedNames.at_level.Given as goal

abbrev pub invariant-loop-path : goal.invariant-loop-path
invariant-loop-path l = l.names ≡ map (λ path. slice_index_or path l.level []) (take l.path-index l.paths)

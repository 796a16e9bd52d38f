use Rattle.std.specs.List.{flat_map}
use Rattle.std.proofs.Common.{◌≡◌, ◌++◌}
use Rattle.cube_model.specs.Cubes.{count_from}
use Rattle.cube_gen.specs.Tables.{branches_head, branch_path}
use Rattle.cube_gen.proofs.tables.make_dims.Given as goal

abbrev pub invariant-branches : goal.invariant-branches
invariant-branches l = l.text ≡ branches_head ++ flat_map (branch_path l.size) (count_from 0 l.branch)

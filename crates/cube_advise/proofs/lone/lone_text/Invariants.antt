use Rattle.std.proofs.Common.{◌≡◌, flat_map}
use Rattle.cube_model.specs.Cores.{shown}
use Rattle.cube_model.specs.Cubes.{count_from}
use Rattle.cube_advise.specs.Lone.{lone_lines}
use Rattle.cube_advise.proofs.lone.lone_text.Given as goal

abbrev pub invariant-measures : goal.invariant-measures
invariant-measures l = l.text ≡ flat_map (lone_lines l.core.dims (shown l.core l.policy)) (count_from 0 l.measure)

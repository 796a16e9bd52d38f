use Rattle.std.proofs.Common.{◌≡◌, flat_map}
use Rattle.cube_model.specs.Cores.{shown}
use Rattle.cube_model.specs.Cubes.{count_from}
use Rattle.cube_advise.specs.Behind.{lines_behind}
use Rattle.cube_advise.proofs.behind.advice_behind.Given as goal

abbrev pub invariant-measures : goal.invariant-measures
invariant-measures l = l.text ≡ flat_map (lines_behind l.core.dims (shown l.core l.policy) l.state.history) (count_from 0 l.measure)

use Rattle.std.proofs.Common.{◌≡◌, flat_map}
use Rattle.cube_model.specs.Cores.{shown}
use Rattle.cube_model.specs.Cubes.{count_from}
use Rattle.cube_advise.specs.Advice.{measure_lines}
use Rattle.cube_advise.proofs.advising.advice.Given as goal

abbrev pub invariant-measures : goal.invariant-measures
invariant-measures l = l.text ≡ flat_map (measure_lines l.core.dims (shown l.core l.policy) l.state.history) (count_from 0 l.measure)

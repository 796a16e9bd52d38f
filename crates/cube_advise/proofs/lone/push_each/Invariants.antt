use Rattle.std.proofs.Common.{◌≡◌, ◌++◌, drop, flat_map}
use Rattle.cube_model.specs.Cores.{shown}
use Rattle.cube_advise.specs.Lone.{lone_line, lone_count}
use Rattle.cube_advise.proofs.lone.push_each.Given as goal

abbrev pub invariant-loop-levels : goal.invariant-loop-levels
invariant-loop-levels l =
    l.text ++ flat_map (λ c. lone_line l.core.dims l.measure c (lone_count (shown l.core l.policy) c)) (drop l.levels-index l.listed)
    ≡ l.fn.text ++ flat_map (λ c. lone_line l.core.dims l.measure c (lone_count (shown l.core l.policy) c)) l.listed

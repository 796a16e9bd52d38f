use Rattle.std.proofs.Common.{◌≡◌, map, take, None}
use Rattle.cube_model.proofs.request.no_picks.Given as goal

abbrev pub invariant-levels : goal.invariant-levels
invariant-levels l = l.picks ≡ map (λ level. None) (take l._level-index l.levels)

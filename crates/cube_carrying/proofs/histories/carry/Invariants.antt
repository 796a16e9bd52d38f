use Rattle.std.proofs.Common.{◌≡◌, [], length, flat_map}
use Rattle.cube_model.specs.Cores.{shown}
use Rattle.cube_model.specs.Cubes.{count_from}
use Rattle.cube_model.specs.Protection.{method}
use Rattle.cube_carry.specs.Carrying as carrying
use Rattle.cube_carry.specs.Names.{named}
use Rattle.cube_carrying.proofs.histories.carry.Given as goal

abbrev pub invariant-measures : goal.invariant-measures
invariant-measures l =
    (flat_map (λ m. carrying.stops_by (method (shown l.new l.new_policy) m) (named l.old l.old_policy) (named l.new l.new_policy) l.state.history m) (count_from 0 l.measure) ≡ [])
    × (l.history ≡ flat_map (carrying.carried_on (named l.old l.old_policy) (named l.new l.new_policy) l.state.history) (count_from 0 l.measure))
    × (l.measure-end ≡ length l.new_policy.methods)

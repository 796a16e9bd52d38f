use Rattle.std.proofs.Common.{◌≡◌, [], get_or, take}
use Rattle.cube_model.specs.Twins.{added}
use Rattle.cube_witness.proofs.twin.add_signs.Given as goal

abbrev pub invariant-places : goal.invariant-places
invariant-places g l = l.values ≡ added (take l.place (get_or l.core.cube l.measure [])) (take l.place l.signs)

use Rattle.std.proofs.Common.{◌≡◌, ℕ, ◌<◌, false, ◌||◌, length, take, get_or}
use Rattle.cube_model.specs.Protection.{listed}
use Rattle.cube_carrying.proofs.apart.mark.Given as goal

abbrev pub invariant-places : goal.invariant-places
invariant-places l = (k : ℕ) → k < length l.initial.flags → get_or l.flags k false ≡ (get_or l.initial.flags k false || listed k (take l.place-index l.places))

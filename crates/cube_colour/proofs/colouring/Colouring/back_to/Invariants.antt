use Rattle.std.proofs.Common.{◌≡◌, ◌≤◌, length, take}
use Rattle.cube_colour.proofs.colouring.Colouring.back_to.Given as goal

abbrev pub invariant-steps : goal.invariant-steps
invariant-steps l = record {
  places : l.self.places ≡ l.initial.self.places;
  guarded : l.self.guarded ≡ l.initial.self.guarded;
  above : l.mark ≤ length l.self.kept;
  kept : take l.mark l.self.kept ≡ take l.mark l.initial.self.kept;
}

abbrev pub decreases-steps : goal.decreases-steps
decreases-steps l = length l.self.kept

use Rattle.std.proofs.Common.{◌≡◌, ◌||◌, None, take, nat_eq}
use Rattle.std.specs.List.{find}
use Rattle.cube_colour.specs.Forests.{Labels, IsLabelled}
use Rattle.cube_colour.proofs.forest.Forest.first_within.Given as goal

abbrev pub invariant-places : goal.invariant-places
invariant-places l = (labels : Labels) → IsLabelled l.self labels → find (λ place. nat_eq (labels.root place) l.one || nat_eq (labels.root place) l.other) (take l.place-index l.places) ≡ None

use Rattle.std.proofs.Common.{◌≡◌, filter, take}
use Rattle.cube_core.specs.Grouping.{pointed}
use Rattle.cube_core.specs.Index.{takes_place}
use Rattle.cube_core.proofs.stretch.sift.Given as goal

abbrev pub invariant-places : goal.invariant-places
invariant-places l = l.kept.items ≡ filter (takes_place (pointed l.dims l.points) l.request l.number) (take l.place-index l.places)

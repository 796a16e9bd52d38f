use Rattle.std.proofs.Common.{◌≡◌, map}
use Rattle.cube_model.specs.Cubes.{count_from}
use Rattle.cube_colour.specs.Forests.{Labels, IsLabelled, sign_beside}
use Rattle.cube_colour.proofs.colouring.Colouring.signs_from.Given as goal

abbrev pub invariant-places : goal.invariant-places
invariant-places l = (labels : Labels) → IsLabelled l.self-inside.forest labels → l.signs ≡ map (sign_beside labels l.from.root l.from.opposite) (count_from 0 l.at)

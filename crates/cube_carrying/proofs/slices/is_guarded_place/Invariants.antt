use Rattle.std.specs.List.{list_any}
use Rattle.std.proofs.Common.{◌≡◌, ◌&&◌, drop, eqb}
use Rattle.cube_model.specs.Cubes.{core}
use Rattle.cube_model.specs.Protection as protection
use Rattle.cube_source.specs.Blocks.{bare}
use Rattle.cube_carrying.proofs.slices.is_guarded_place.Given as goal

abbrev pub invariant-objects : goal.invariant-objects
invariant-objects l =
    list_any (λ object. eqb object.measure l.measure && protection.guards (bare l.core) object (core (bare l.core)) l.place) (drop l.object-index l.objects)
    ≡ list_any (λ object. eqb object.measure l.measure && protection.guards (bare l.core) object (core (bare l.core)) l.place) l.objects

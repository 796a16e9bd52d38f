use Rattle.std.proofs.Common.{◌++◌, ◌∷◌, [], Bool, List, map, sym, ap, ◌∙◌}
use Rattle.std.proofs.lemmas.List.{map-append}
use Rattle.cube_model.specs.Cubes.{count_from}
use Rattle.cube_model.specs.Protection.{in_slice}
use Rattle.cube_source.specs.Blocks.{bare}
use Rattle.cube_source.proofs.Growing.{number_last}
use Rattle.cube_source.proofs.slices.slice_flags.Goals as goal

pub places-preserved : goal.places-preserved
places-preserved c =
    let f = in_slice (bare c.args.core.now) c.args.object.now in
    c.in_ok-push.ensures.ok
    ∙ ap (λ (b : Bool). c.places.flags ++ b ∷ []) c.in_slice.ensures
    ∙ ap (λ (bs : List Bool). bs ++ f c.places.place ∷ []) c.places.invariant
    ∙ sym (ap (map f) (number_last c.places.place) ∙ map-append f (count_from 0 c.places.place) (c.places.place ∷ []))

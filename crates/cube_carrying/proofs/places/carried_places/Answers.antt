use Rattle.std.proofs.Common.{ℕ, List, [], ◌∷◌, ◌++◌, ap, sym, ◌∙◌}
use Rattle.cube_carrying.specs.Places.{place_in}
use Rattle.cube_carrying.proofs.Tables.{numbers_more}
use Rattle.cube_carrying.proofs.places.carried_places.Goals as goal

pub places-preserved : goal.places-preserved
places-preserved c =
    let f = place_in c.args.old.now c.args.new.now in
    c.in_ok-push.ensures.ok ∙ ap (λ (n : ℕ). c.places.places ++ n ∷ []) c.in_ok-carried_place.ensures
    ∙ ap (λ (ns : List ℕ). ns ++ f c.places.place ∷ []) c.places.invariant ∙ sym (numbers_more f c.places.place)

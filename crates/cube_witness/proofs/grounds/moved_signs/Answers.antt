use Rattle.std.proofs.Common.{[], ◌∷◌, ◌++◌, ℤ, ap, ◌∙◌, rules, w8, SFits}
use Rattle.std.proofs.lemmas.Int.{to_z-of_z}
use Rattle.cube_model.specs.Twins.{moved, with_first}
use Rattle.cube_colour.proofs.Signs.{sign_more}
use Rattle.cube_witness.proofs.grounds.moved_signs.Goals as goal

pub places-preserved : goal.places-preserved
places-preserved c =
    let range : SFits w8 c.moved_sign.result = search rules in
    sign_more (with_first moved c.args.pair) c.places.signs c.push.new.self c.places.place c.places.invariant
    (let stored = rw (to_z-of_z w8 c.moved_sign.result range) at c.in_ok-push.ensures.ok in stored ∙ ap (λ (x : ℤ). c.places.signs ++ x ∷ []) c.moved_sign.ensures)

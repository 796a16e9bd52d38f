use Rattle.std.proofs.Common.{[], ◌∷◌, ◌++◌, ℤ, ap, ◌∙◌, rules, w8, SFits}
use Rattle.std.proofs.lemmas.Int.{to_z-of_z}
use Rattle.cube_model.specs.Twins.{plus_at}
use Rattle.cube_colour.proofs.Signs.{sign_more}
use Rattle.cube_witness.proofs.grounds.plus_signs.Goals as goal

pub places-preserved : goal.places-preserved
places-preserved c =
    let range : SFits w8 c.plus_sign.result = search rules in
    sign_more (plus_at c.args.at) c.places.signs c.push.new.self c.places.place c.places.invariant
    (let stored = rw (to_z-of_z w8 c.plus_sign.result range) at c.in_ok-push.ensures.ok in stored ∙ ap (λ (x : ℤ). c.places.signs ++ x ∷ []) c.plus_sign.ensures)

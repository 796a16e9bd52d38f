use Rattle.std.proofs.Common.{ℤ, ◌+ℤ◌, ap₂, ◌∙◌, rules, w8, w64, SFits}
use Rattle.std.proofs.lemmas.Int.{to_z-of_z}
use Rattle.cube_witness.proofs.Adding.{sum_small}
use Rattle.cube_witness.proofs.twin.sum_at.Goals as goal

pub add_sign-requires : goal.add_sign-requires
add_sign-requires g c =
    let range : SFits w64 c.value-value.result = search rules in
    rw (to_z-of_z w64 c.value-value.result range) (sum_small c.args.core.now c.args.place c.value-value.result c.value-value.ensures.rules c.requires.place c.value-value.ensures.bound)

pub returns : goal.returns
returns g c =
    let wide : SFits w64 c.value-value.result = search rules in
    let small : SFits w8 c.sign_at-sign.result = search rules in
    let sum = rw (to_z-of_z w64 c.value-value.result wide, to_z-of_z w8 c.sign_at-sign.result small) at c.add_sign.ensures in
    let made : SFits w64 c.add_sign.result = search rules in
    to_z-of_z w64 c.add_sign.result made ∙ sum ∙ ap₂ (λ (x y : ℤ). x +ℤ y) c.value-value.ensures.value c.sign_at-sign.ensures

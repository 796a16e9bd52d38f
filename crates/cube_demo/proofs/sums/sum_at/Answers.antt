use Rattle.std.proofs.Common.{◌≡◌, ℤ, ◌+ℤ◌, ◌+◌, ap, subst, sym, ◌∙◌, w64, to_z, of_z}
use Rattle.std.proofs.lemmas.Int.{to_z-of_z}
use Rattle.cube_model.specs.Cores.{IsSumOf}
use Rattle.cube_demo.proofs.Totals.{one_more}
use Rattle.cube_demo.proofs.sums.sum_at.Goals as goal

pub places-preserved : goal.places-preserved
places-preserved c =
    let inv = c.places.invariant in
    let more = one_more c.args.signs.now c.args.places.now c.places.place-index (to_z w64 c.places.sum-bits) c.sign_at-sum.result c.places-test.true c.requires.few c.sign_at-sum.ensures.sign c.sign_at-sum.ensures.small inv.summed inv.bounded in
    let back = to_z-of_z w64 c.sign_at-sum.result more.value_fits in
    let all : to_z w64 (of_z w64 (to_z w64 c.places.sum-bits +ℤ to_z w64 (of_z w64 c.sign_at-sum.result))) ≡ to_z w64 c.places.sum-bits +ℤ c.sign_at-sum.result
    = ap (λ (z : ℤ). to_z w64 (of_z w64 (to_z w64 c.places.sum-bits +ℤ z))) back ∙ to_z-of_z w64 (to_z w64 c.places.sum-bits +ℤ c.sign_at-sum.result) more.fits in
    record { summed = all ∙ more.is_total; bounded = subst (IsSumOf (c.places.place-index + 1)) (sym all) more.bound }

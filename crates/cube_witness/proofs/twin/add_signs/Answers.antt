use Rattle.std.proofs.Common.{[], get_or, rules, w64, SFits, arith}
use Rattle.std.proofs.lemmas.Int.{to_z-of_z}
use Rattle.cube_witness.proofs.Adding.{sum_more, values_long, all_added}
use Rattle.cube_witness.proofs.twin.add_signs.Goals as goal

pub places-preserved : goal.places-preserved
places-preserved g c =
    let range : SFits w64 c.sum_at.result = search rules in
    let size = c.len-place-end.ensures.len in
    let even = c.requires.long in
    let long = values_long c.args.core.now c.args.measure c.len-place-end.ensures.rules c.requires.measure in
    let stored = rw (to_z-of_z w64 c.sum_at.result range) at c.in_ok-push.ensures.ok in
    sum_more (get_or c.args.core.now.cube c.args.measure []) c.args.signs.now c.places.values c.push.new.self c.places.place c.sum_at.result
    (omega (arith, size, long, c.places-test.true)) (omega (arith, size, even, c.places-test.true)) c.places.invariant c.sum_at.ensures stored

pub returns : goal.returns
returns g c =
    let size = c.len-place-end.ensures.len in
    let even = c.requires.long in
    let long = values_long c.args.core.now c.args.measure c.len-place-end.ensures.rules c.requires.measure in
    all_added (get_or c.args.core.now.cube c.args.measure []) c.args.signs.now c.places.values c.places.place
    (omega (arith, size, long, c.places-test.false)) (omega (arith, size, even, c.places-test.false)) c.places.invariant

use Rattle.std.proofs.Common.{◌<◌, [], ◌++◌, length, take, get_or, ◌∙◌, subst, rules, arith, w64, SFits, to_z, of_z}
use Rattle.std.proofs.lemmas.Int.{to_z-of_z}
use Rattle.std.specs.List.{flat_map}
use Rattle.sha2.specs.Hashers.{Holds256}
use Rattle.cube_seal.specs.Values.{value_bytes}
use Rattle.cube_seal.proofs.Feeding.{value_more, fed_all, values_long}
use Rattle.cube_seal.proofs.values.feed_values.Goals as goal

pub places-preserved : goal.places-preserved
places-preserved g c = λ m held.
    let size = c.len-place-end.ensures.len in
    let is_place : c.places.place < length c.args.core.now.shape.points = omega (arith, size, c.places-test.true) in
    let range : SFits w64 c.value.result = search rules in
    let fed = c.feed_value.ensures (m ++ flat_map value_bytes (take c.places.place (get_or c.args.core.now.cube c.args.measure []))) (c.places.invariant m held) in
    subst (Holds256 c.feed_value.new.hasher) (value_more c.args.core.now c.args.measure c.places.place (to_z w64 (of_z w64 c.value.result)) m c.len-place-end.ensures.rules c.requires is_place (to_z-of_z w64 c.value.result range ∙ c.value.ensures.value)) fed

pub returns : goal.returns
returns g c = λ m held.
    let size = c.len-place-end.ensures.len in
    let long = values_long c.args.core.now c.args.measure c.len-place-end.ensures.rules c.requires in
    subst (Holds256 c.places.hasher) (fed_all value_bytes m (get_or c.args.core.now.cube c.args.measure []) c.places.place (omega (arith, size, long, c.places-test.false))) (c.places.invariant m held)

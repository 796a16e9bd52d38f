use Rattle.std.proofs.Common.{◌∙◌, ◌<◌, [], length, take, ap, subst, arith}
use Rattle.std.specs.List.{flat_map, zip}
use Rattle.cube_model.specs.Dims.{Dims}
use Rattle.sha2.specs.Hashers.{Holds256}
use Rattle.sha2.specs.Sha256.{sha256}
use Rattle.cube_seal.specs.Values.{measure_bytes}
use Rattle.cube_seal.proofs.Feeding.{measure_more, fed_all, zip_long}
use Rattle.cube_seal.proofs.values.hash_values.Goals as goal

pub measures-preserved : goal.measures-preserved
measures-preserved g c =
    let core = c.args.core.now in
    let dims = ap (λ (s : Dims). length s.measures) c.dims.ensures.dims in
    let size = ap length c.measures-2.ensures.measures in
    let within : c.measures.measure < length core.dims.measures = omega (arith, dims, size, c.measures-test.true) in
    subst (Holds256 c.feed_measure.new.hasher) (measure_more core [] c.measures.measure c.dims.ensures.rules within)
    (c.feed_measure.ensures (flat_map measure_bytes (take c.measures.measure (zip core.dims.measures core.cube))) c.measures.invariant)

pub returns : goal.returns
returns g c =
    let core = c.args.core.now in
    let rules = c.dims.ensures.rules in
    let dims = ap (λ (s : Dims). length s.measures) c.dims.ensures.dims in
    let size = ap length c.measures-2.ensures.measures in
    let long = zip_long core.dims.measures core.cube rules.measures in
    c.finalize.ensures (flat_map measure_bytes (take c.measures.measure (zip core.dims.measures core.cube))) c.measures.invariant
    ∙ ap sha256 (fed_all measure_bytes [] (zip core.dims.measures core.cube) c.measures.measure (omega (arith, dims, size, long, c.measures-test.false)))

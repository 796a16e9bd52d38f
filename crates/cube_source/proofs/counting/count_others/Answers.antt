use Rattle.std.proofs.Common.{arith}
use Rattle.cube_source.specs.Counts.{other_count}
use Rattle.cube_source.proofs.Adding.{sum_next}
use Rattle.cube_source.proofs.counting.count_others.Goals as goal

pub measures-preserved : goal.measures-preserved
measures-preserved c =
    let more = sum_next (other_count c.args.core.now c.args.policy.now) c.measures.measure in
    let so_far = c.measures.invariant.counted in
    let bound = c.measures.invariant.small in
    let own = c.count_other-total.ensures.count in
    let small = c.count_other-total.ensures.small in
    record { counted = omega (arith, more, so_far, own); small = omega (arith, bound, small) }

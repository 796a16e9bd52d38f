use Rattle.std.proofs.Common.{◌∙◌, length, sym, ap}
use Rattle.cube_core.proofs.Stretches.{counted_below}
use Rattle.cube_core.proofs.core_cube.Core.first_places.Goals as goal

pub sift-requires-clause-places : goal.sift-requires-clause-places
sift-requires-clause-places c =
    let points = c.as_slice-points.ensures ∙ ap (λ s. s.points) c.shape.ensures.shape in
    counted_below (length c.as_slice-points.result.now) c.len-many.result c.in_ok-all-in-None.all c.in_ok-all-in-None.ensures (c.len-many.ensures.len ∙ sym (ap length points))

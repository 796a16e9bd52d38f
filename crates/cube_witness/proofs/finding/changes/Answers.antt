use Rattle.std.proofs.Common.{ap, ◌∙◌, length, arith}
use Rattle.cube_witness.specs.Grounds.{moves_in}
use Rattle.cube_witness.proofs.Moves.{moves_there}
use Rattle.cube_witness.proofs.Telling.{can_tell, told, signs_long}
use Rattle.cube_witness.proofs.finding.changes.Goals as goal

pub signs_by-requires-clause-grounds : goal.signs_by-requires-clause-grounds
signs_by-requires-clause-grounds c =
    can_tell c.args.core.now c.args.policy.now c.args.measure c.in_ok-place.place c.args.cell.now c.args.grounds.now c.dims-rules.ensures.rules c.requires.policy c.requires.grounds c.in_ok-place.ensures.protected c.in_ok-place.ensures.first

pub moves_of-requires : goal.moves_of-requires
moves_of-requires c =
    let few = c.dims-rules.ensures.rules.few_points in
    let long = signs_long c.args.core.now c.in_ok-place.place c.args.cell.now c.args.grounds.now c.in_ok-signs.signs c.in_ok-signs.ensures in
    let same = ap length c.as_slice.ensures in
    omega (arith, few, long, same)

pub returns-clause-changes : goal.returns-clause-changes
returns-clause-changes c =
    told c.args.core.now c.args.policy.now c.args.measure c.in_ok-place.place c.args.cell.now c.args.grounds.now c.in_ok-signs.signs c.in_ok-moves_of.field-0 c.dims-rules.ensures.rules c.requires.policy
    c.in_ok-place.ensures.protected c.in_ok-place.ensures.first c.in_ok-signs.ensures (c.in_ok-moves_of.ensures.moves ∙ ap (λ signs. moves_in signs (length signs)) c.as_slice.ensures)

pub returns-clause-places : goal.returns-clause-places
returns-clause-places c =
    let long = signs_long c.args.core.now c.in_ok-place.place c.args.cell.now c.args.grounds.now c.in_ok-signs.signs c.in_ok-signs.ensures in
    moves_there c.in_ok-moves_of.field-0 (length c.as_slice.result.now) (length c.args.core.now.shape.points) (ap length c.as_slice.ensures ∙ long) c.in_ok-moves_of.ensures.places

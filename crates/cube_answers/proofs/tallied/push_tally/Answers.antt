use Rattle.std.proofs.Common.{◌∙◌, ◌-◌, ◌<◌, length, arith}
use Rattle.cube_answers.proofs.Keys.{tally_fits}
use Rattle.cube_answers.proofs.tallied.push_tally.Goals as goal

pub push_line-requires-clause-long : goal.push_line-requires-clause-long
push_line-requires-clause-long c =
    let some = c.if-tally-eq0.false in
    let few = c.requires.place in
    let below : c.args.tally.mark - 1 < length c.args.points.now = omega (arith, some, few) in
    (tally_fits c.args.dims.now c.args.points.now c.args.request.now (c.args.tally.mark - 1) c.as_slice.result.now c.dimensions-rules.ensures.rules c.requires.fits c.requires.points below (c.as_slice.ensures.value ∙ c.in_ok-write_key.ensures)).0

pub push_line-requires-clause-there : goal.push_line-requires-clause-there
push_line-requires-clause-there c =
    let some = c.if-tally-eq0.false in
    let few = c.requires.place in
    let below : c.args.tally.mark - 1 < length c.args.points.now = omega (arith, some, few) in
    (tally_fits c.args.dims.now c.args.points.now c.args.request.now (c.args.tally.mark - 1) c.as_slice.result.now c.dimensions-rules.ensures.rules c.requires.fits c.requires.points below (c.as_slice.ensures.value ∙ c.in_ok-write_key.ensures)).1

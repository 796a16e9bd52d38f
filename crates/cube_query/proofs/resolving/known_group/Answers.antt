use Rattle.cube_query.proofs.Places.{levels_said}
use Rattle.cube_query.proofs.resolving.known_group.Goals as goal

pub returns : goal.returns
returns c =
    let said = levels_said c.args.dims.now c.args.names.now c.in_ok-levels.levels.items c.dimensions-rules.ensures.rules.distinct_dimensions c.in_ok-levels.ensures.placed in
    let read = c.deref.ensures.value in
    let group = c.in_ok-group_of.ensures in
    rw (group, read) said

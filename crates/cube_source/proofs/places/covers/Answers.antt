use Rattle.cube_source.proofs.Keys.{uneven}
use Rattle.cube_source.proofs.places.covers.Goals as goal

pub returns-else-len : goal.returns-else-len
returns-else-len c = uneven c.args.core.now c.args.cell.now.levels c.args.cell.now.key c.args.place c.len.result c.len-2.result c.dims-rules.ensures.rules c.requires.place c.requires.levels c.len.ensures c.len-2.ensures c.if-len.false

use Rattle.cube_gen.specs.Tables.{other_tables}
use Rattle.cube_gen.proofs.tables.push_others.Goals as goal

pub returns : goal.returns
unfolding other_tables
returns c = c.extend.ensures.ok

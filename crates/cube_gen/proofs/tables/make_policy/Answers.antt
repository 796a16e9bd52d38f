use Rattle.cube_gen.specs.Tables.{made_policy}
use Rattle.cube_gen.proofs.tables.make_policy.Goals as goal

pub returns : goal.returns
unfolding made_policy
returns c = c.from_bytes.ensures

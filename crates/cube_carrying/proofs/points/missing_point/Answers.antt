use Rattle.cube_carry.specs.Names.{named}
use Rattle.cube_carrying.proofs.Keeping.{have_measures}
use Rattle.cube_carrying.proofs.points.missing_point.Goals as goal

pub first_missing-requires-clause-measures : goal.first_missing-requires-clause-measures
first_missing-requires-clause-measures c = have_measures (named c.args.old.now c.args.old_policy.now) (named c.args.new.now c.args.new_policy.now) c.requires.measures

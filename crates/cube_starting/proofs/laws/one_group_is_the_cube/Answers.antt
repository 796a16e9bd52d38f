use Rattle.cube_starting.proofs.Everyone as known
use Rattle.cube_starting.proofs.laws.one_group_is_the_cube.Goals as goal

pub returns-clause-groups : goal.returns-clause-groups
returns-clause-groups c = known.one_group_is_the_cube

pub returns-clause-runs : goal.returns-clause-runs
returns-clause-runs c = known.one_run_is_the_cube

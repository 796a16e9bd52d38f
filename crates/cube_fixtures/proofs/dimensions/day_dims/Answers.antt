use Rattle.cube_fixtures.proofs.Worked.{is_pay}
use Rattle.cube_fixtures.proofs.dimensions.day_dims.Goals as goal

pub make_measure-requires : goal.make_measure-requires
make_measure-requires c = is_pay

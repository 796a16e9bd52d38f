use Rattle.cube_fixtures.proofs.Worked.{is_pay, is_hours}
use Rattle.cube_fixtures.proofs.dimensions.pay_dims.Goals as goal

pub make_measure-requires : goal.make_measure-requires
make_measure-requires c = is_pay

pub make_measure-requires-2 : goal.make_measure-requires-2
make_measure-requires-2 c = is_hours

use Rattle.cube_fixtures.proofs.Worked.{is_v}
use Rattle.cube_fixtures.proofs.dimensions.field_dims.Goals as goal

pub make_measure-requires : goal.make_measure-requires
make_measure-requires c = is_v

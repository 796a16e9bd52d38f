use Rattle.cube_model.proofs.Keeps.{kept_requests_are_open}
use Rattle.cube_model.proofs.laws.two_worlds.kept_requests_are_open.Goals as goal

pub returns : goal.returns
returns c = kept_requests_are_open

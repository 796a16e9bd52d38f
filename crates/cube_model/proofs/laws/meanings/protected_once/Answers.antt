use Rattle.cube_model.proofs.Leasts.{protected_once}
use Rattle.cube_model.proofs.laws.meanings.protected_once.Goals as goal

pub returns : goal.returns
returns c = protected_once

use Rattle.cube_model.proofs.Objects.{protected_are}
use Rattle.cube_model.proofs.laws.meanings.protected_are.Goals as goal

pub returns : goal.returns
returns c = protected_are

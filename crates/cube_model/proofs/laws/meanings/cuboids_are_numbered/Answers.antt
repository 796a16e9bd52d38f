use Rattle.cube_model.proofs.Numbers.{cuboids_are_numbered}
use Rattle.cube_model.proofs.laws.meanings.cuboids_are_numbered.Goals as goal

pub returns : goal.returns
returns c = cuboids_are_numbered

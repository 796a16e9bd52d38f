use Rattle.std.proofs.Common.{refl}
use Rattle.hex.proofs.OnLiterals.{hex_on_literals}
use Rattle.cube_script.proofs.worked.worked_scripts.Goals as goal

pub returns-clause-each : goal.returns-clause-each
unfolding hex_on_literals
returns-clause-each c = refl

pub returns-clause-no_hex : goal.returns-clause-no_hex
unfolding hex_on_literals
returns-clause-no_hex c = refl

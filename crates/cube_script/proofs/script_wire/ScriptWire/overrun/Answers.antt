use Rattle.std.proofs.Common.{subst}
use Rattle.cube_script.specs.Playing.{Playing, IsPlaying}
use Rattle.cube_script.proofs.Ready.{playing}
use Rattle.cube_script.proofs.script_wire.ScriptWire.overrun.Goals as goal

pub returns-clause-playing : goal.returns-clause-playing
returns-clause-playing c = subst (λ (w : Playing). IsPlaying w) c.self.view_is (playing _ _ _ c.self.invariant.0)

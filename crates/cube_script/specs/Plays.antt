-- The events of a script as they are kept.
use Rattle.std.specs.Prelude.{◌≡◌, ⊤, ℕ, List, Result, Err}
use Rattle.cube_io.specs.Wires.{Arrival as arrival}
use Rattle.cube_io.specs.Wires.{Arrival}
use Rattle.cube_script.specs.declared.play.Play.{Play}
use Rattle.cube_script.specs.declared.play.Play.TheVariants as play
use Rattle.cube_script.specs.declared.play.ScriptFault.{ScriptFault}
use Rattle.cube_script.specs.declared.play.ScriptFault.TheVariants as fault

-- what comes where an event is played
abbrev pub played : Play → Arrival
played (play.Opened c) = arrival.Opened c
played (play.Came c bytes) = arrival.Came c bytes
played (play.Closed c) = arrival.Closed c
played play.End = arrival.End

-- a script is refused for what it says, at its first refused line; want of memory may always come
abbrev pub Refuses : ScriptFault → Result (List Arrival) ℕ → Type 0
Refuses (fault.Line n) said = said ≡ Err n
Refuses fault.NoMemory said = ⊤

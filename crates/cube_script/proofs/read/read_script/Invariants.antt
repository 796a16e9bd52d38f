use Rattle.std.proofs.Common.{◌≡◌, map}
use Rattle.cube_script.specs.Plays.{played}
use Rattle.cube_script.specs.Scripts.{lines, events_of, script_of}
use Rattle.cube_script.proofs.Reading.{behind}
use Rattle.cube_script.proofs.read.read_script.Given as goal

abbrev pub invariant-lines : goal.invariant-lines
invariant-lines l = script_of l.script ≡ behind (map played l.plays.items) (events_of l.line (lines l.rest))

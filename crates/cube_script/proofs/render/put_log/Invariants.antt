use Rattle.std.proofs.Common.{◌≡◌, take}
use Rattle.std.specs.Io.KnownBytes.{Appends}
use Rattle.cube_io.specs.Wires.{render}
use Rattle.cube_script.proofs.render.put_log.Given as goal

abbrev pub invariant-entries : goal.invariant-entries
invariant-entries g l = record {
  put : Appends (g.O.Sink.state l.initial.out).written (g.O.Sink.state l.out).written (render (take l.place l.scroll.log));
  steady : (g.O.Sink.state l.out).faults ≡ (g.O.Sink.state l.initial.out).faults;
}

use Rattle.std.proofs.Common.{◌≡◌, ◌≤◌, ◌+◌, length}
use Rattle.std.specs.Prelude.{IsTrue}
use Rattle.cube_io.specs.States.{Appended}
use Rattle.cube_edge.specs.Disks.{WorksAt}
use Rattle.cube_edge.proofs.store.write_whole.Given as goal

abbrev pub invariant-writes : goal.invariant-writes
invariant-writes g l = record {
  file : g.D.Disk.place l.file ≡ g.D.Disk.place l.initial.file;
  seen : (g.D.Disk.state l.disk).seen ≡ (g.D.Disk.state l.initial.disk).seen;
  works : WorksAt (g.D.Disk.place l.initial.file) (g.D.Disk.state l.initial.disk) (g.D.Disk.state l.disk);
  grows : IsTrue (g.D.Disk.state l.initial.disk).told → Appended l.piece l.rest ((g.D.Disk.state l.initial.disk).logs (g.D.Disk.place l.initial.file)) ((g.D.Disk.state l.disk).logs (g.D.Disk.place l.initial.file));
  refused : IsTrue (g.D.Disk.state l.initial.disk).told → (g.D.Disk.state l.disk).refused ≡ (g.D.Disk.state l.initial.disk).refused;
  shorter : IsTrue (g.D.Disk.state l.initial.disk).told → length l.rest + l._write ≤ length l.piece;
}

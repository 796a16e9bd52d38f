use Rattle.std.proofs.Common.{rules}
use Rattle.std.specs.Prelude.{string_bytes}
use Rattle.cube_edge.specs.Disks.{path_of}
use Rattle.cube_edge.proofs.Appending.{nothing_appended}
use Rattle.cube_edge.proofs.store.LogFiles.append.Goals as goal

pub returns-in_default-clause-grows : goal.returns-in_default-clause-grows
returns-in_default-clause-grows g c = λ told. (c.args.piece.now, tt, nothing_appended (path_of (string_bytes c.args.self.now.name) c.args.log) c.args.piece.now (g.D.Disk.state c.args.self.now.disk) (g.D.Disk.state c.open.new.self.disk) c.open.ensures.rests told)

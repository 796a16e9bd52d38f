use Rattle.std.proofs.Common.{rules}
use Rattle.cube_edge.proofs.Appending.{nothing_appended}
use Rattle.cube_edge.proofs.store.LogFile.append.Goals as goal

pub returns-in_err-look-clause-grows : goal.returns-in_err-look-clause-grows
returns-in_err-look-clause-grows g c = λ told. (c.args.piece.now, search rules, nothing_appended c.args.path.now c.args.piece.now (g.D.Disk.state c.args.disk.now) (g.D.Disk.state c.look.new.self) c.look.ensures.rests told)

use Rattle.std.proofs.Common.{◌≡◌, ◌++◌, ap, rules}
use Rattle.cube_io.proofs.Trails.{gained_none}
use Rattle.cube_edge.specs.Disks.{IsOldOrNew}
use Rattle.cube_edge.proofs.out_file.OutFile.put_whole.Goals as goal
use Rattle.cube_edge.proofs.out_file.OutFile.put_whole.Goals.{then-self-gt0-via-then-self-gt0, then-self-gt0-via-else-self-gt0+then-is_err}

pub returns-then-self-gt0-clause-crash : goal.returns-then-self-gt0-clause-crash
returns-then-self-gt0-clause-crash g c =
    let same : c.then-self-gt0.self-inside.disk ≡ c.args.self.now.0 = elim c.then-self-gt0.branch [
      | then-self-gt0-via-then-self-gt0 w ↦ search rules
      | then-self-gt0-via-else-self-gt0+then-is_err w ↦ search rules
    ] in
    λ told. gained_none (IsOldOrNew (c.args.self.now.1.written ++ c.args.piece.now) ((g.D.Disk.state c.args.self.now.0).logs c.args.self.now.1.path).state) ((g.D.Disk.state c.args.self.now.0).logs c.args.self.now.1.path) ((g.D.Disk.state c.then-self-gt0.self-inside.disk).logs c.args.self.now.1.path)
    (ap (λ disk. (g.D.Disk.state disk).logs c.args.self.now.1.path) same)

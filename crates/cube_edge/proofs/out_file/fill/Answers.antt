use Rattle.cube_edge.proofs.Replacing.{on_ok, filled}
use Rattle.cube_edge.proofs.out_file.fill.Goals as goal

pub returns-clause-done : goal.returns-clause-done
returns-clause-done g c = λ told.
    let more = c.append.ensures.grows told in
    on_ok c.append.result (λ all. filled c.args.bytes.now more.0 ((g.D.Disk.state c.args.disk.now).logs c.args.path.now) ((g.D.Disk.state c.append.new.disk).logs c.args.path.now) (c.requires told) more.2 all) more.1

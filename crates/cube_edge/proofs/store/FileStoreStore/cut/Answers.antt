use Rattle.std.specs.Prelude.{map, string_bytes}
use Rattle.cube_edge.proofs.Paths.{view_stays}
use Rattle.cube_edge.proofs.store.FileStoreStore.cut.Goals as goal

pub returns-clause-others : goal.returns-clause-others
returns-clause-others g c = view_stays g.D.Disk.state c.self.inside.files.disk c.self.inside.attached (c.self.inside.faults, map (λ it. it.log) c.self.inside.files.held.items) c.args.self.now (g.D.Disk.state c.cut-done.new.self.disk) c.args.log (string_bytes c.self.inside.files.name) c.self.view_is c.self.invariant c.requires.attached c.ranges.log.fits c.cut-done.ensures.works

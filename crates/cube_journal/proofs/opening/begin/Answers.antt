use Rattle.std.proofs.Common.{◌∙◌}
use Rattle.cube_io.proofs.Trails.{gained_then}
use Rattle.cube_journal.specs.Keeping.{IsBegun}
use Rattle.cube_journal.proofs.OpeningSteps.{put_head}
use Rattle.cube_journal.proofs.opening.begin.Goals as goal

pub returns-in-Ok-clause-trail : goal.returns-in-Ok-clause-trail
returns-in-Ok-clause-trail g c = λ told. gained_then (IsBegun c.args.head.now) ((g.S.Store.state c.args.store.now).logs c.args.log) ((g.S.Store.state c.emptied.new.store).logs c.args.log) ((g.S.Store.state c.put.new.store).logs c.args.log) (c.emptied.ensures.trail told) (put_head c.args.head.now ((g.S.Store.state c.emptied.new.store).logs c.args.log) ((g.S.Store.state c.put.new.store).logs c.args.log) (c.in-Ok.ensures.ok told) (c.put.ensures.trail (c.emptied.ensures.works.told ∙ told)))

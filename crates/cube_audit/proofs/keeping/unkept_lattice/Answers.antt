use Rattle.std.proofs.Common.{sym, ◌∙◌}
use Rattle.cube_audit.specs.Keeping.{public_of}
use Rattle.cube_audit.proofs.Kept.{levels_in_range}
use Rattle.cube_audit.proofs.keeping.unkept_lattice.Goals as goal

pub judge-requires-clause-levels : goal.judge-requires-clause-levels
judge-requires-clause-levels c =
    levels_in_range (public_of c.args.asked.now) c.args.asked.now.requests.now c.args.measure c.in-Some.levels c.requires.asked.requests (sym c.in-Some.is ∙ c.in_ok-levels.ensures)

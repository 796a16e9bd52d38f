use Rattle.std.proofs.Common.{length, ap, ◌∙◌}
use Rattle.cube_query.specs.Faults.{request_of}
use Rattle.cube_gen.specs.Made.{made_queries}
use Rattle.cube_demo.proofs.Steps.{made_long, read_long}
use Rattle.cube_demo.proofs.demonstration.summary_of.Goals as goal

pub summary-requires-clause-size : goal.summary-requires-clause-size
summary-requires-clause-size c =
    ap length c.as_slice-requests.ensures
    ∙ read_long (request_of c.in_ok-made.made.core.dims) (made_queries c.args.number c.args.size) c.in_ok-made.made.requests c.in_ok-made.ensures.read.queries
    ∙ made_long c.args.number c.args.size

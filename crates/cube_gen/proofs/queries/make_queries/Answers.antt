use Rattle.std.proofs.Common.{◌*◌}
use Rattle.cube_gen.proofs.Steps.{query_more}
use Rattle.cube_gen.proofs.queries.make_queries.Goals as goal

pub queries-preserved : goal.queries-preserved
queries-preserved c =
    query_more c.args.size c.queries.draws c.below-kind.new.self c.make_query.new.draws (200 * c.args.size) c.queries._query c.below-kind.result c.in_ok-make_query.field-0 c.queries.queries c.push.new.self _ c.queries-test.true c.queries.invariant c.below-kind.ensures.state c.below-kind.ensures.drawn c.in_ok-make_query.ensures.text c.in_ok-make_query.ensures.draws c.in_ok-push.ensures.ok

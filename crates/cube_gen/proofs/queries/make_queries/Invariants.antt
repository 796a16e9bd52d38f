use Rattle.std.proofs.Common.{◌≡◌, ◌*◌, ◌-◌, ◌++◌}
use Rattle.cube_gen.specs.Made.{queries_from}
use Rattle.cube_gen.proofs.queries.make_queries.Given as goal

abbrev pub invariant-queries : goal.invariant-queries
invariant-queries l = l.queries ++ queries_from l.draws l.size (200 * l.size - l._query) ≡ queries_from l.fn.draws l.size (200 * l.size)

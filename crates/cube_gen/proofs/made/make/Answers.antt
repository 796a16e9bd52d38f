use Rattle.std.proofs.Common.{◌∙◌, ap}
use Rattle.cube_gen.specs.Draws.{seed}
use Rattle.std.proofs.Common.{◌*◌}
use Rattle.cube_gen.proofs.Steps.{queries_whole}
use Rattle.cube_gen.proofs.made.make.Goals as goal

pub returns-clause-queries : goal.returns-clause-queries
returns-clause-queries c = queries_whole c.args.number c.make_facts.new.draws c.args.size c.in_ok-queries.queries c.in_ok-queries.ensures (c.in_ok-facts.ensures.draws ∙ ap (λ x. seed x (3 * (20000 * c.args.size))) c.new-draws.ensures)

use Rattle.std.proofs.Common.{◌*◌, ◌∙◌, ap}
use Rattle.std.proofs.lemmas.Result.{IfOk-weaker}
use Rattle.cube_gen.proofs.Steps.{range_is}
use Rattle.cube_gen.proofs.queries.make_range.Goals as goal

pub returns-clause-text : goal.returns-clause-text
returns-clause-text c = IfOk-weaker c.range_of.result _ _ (λ text is. is ∙ range_is c.args.draws.now c.args.size _ c.below-a.result c.below-b.result c.below-c.result c.below-d.result c.below-e.result c.below-f.result
    c.below-a.new.self c.below-b.new.self c.below-c.new.self c.below-d.new.self c.below-e.new.self (ap (λ n. 40 * n) c.from-branches.ensures)
    c.below-a.ensures.drawn c.below-a.ensures.state c.below-b.ensures.drawn c.below-b.ensures.state c.below-c.ensures.drawn c.below-c.ensures.state c.below-d.ensures.drawn c.below-d.ensures.state c.below-e.ensures.drawn c.below-e.ensures.state c.below-f.ensures.drawn) c.range_of.ensures

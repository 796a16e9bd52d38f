use Rattle.std.specs.Prelude.{codes}
use Rattle.std.proofs.Common.{arith}
use Rattle.cube_gen.proofs.Steps.{fact_more, facts_whole}
use Rattle.cube_gen.proofs.facts.make_facts.Goals as goal

pub facts-preserved : goal.facts-preserved
facts-preserved c =
    let more = fact_more (codes "branch,month,grade,pay,hours,bonus\n") c.args.draws.now c.args.size c.facts.fact c.facts.draws c.push_values.new.draws c.facts.text c.push_place.new.text c.push_values.new.text c.extend.new.self c.facts.invariant.text c.facts.invariant.draws c.in_ok-push_place.ensures c.in_ok-push_values.ensures.text c.in_ok-extend.ensures.ok c.in_ok-push_values.ensures.draws in
    record { text = more.text_is; draws = more.draws_are }

pub returns-clause-text : goal.returns-clause-text
returns-clause-text c =
    let size = c.from-fact-end.ensures in
    facts_whole c.args.draws.now c.args.size c.facts.fact c.facts.text c.facts.invariant.text (omega (arith, c.facts-test.false, c.facts.auto.fact-end, size))

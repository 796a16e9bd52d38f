use Rattle.std.proofs.Common.{ap, sym, inr, subst, ◌∙◌}
use Rattle.cube_model.specs.Answers.{Answers}
use Rattle.cube_facts.specs.FactFile.{filled, facts_in}
use Rattle.cube_facts.specs.declared.fault.FactsFault.TheVariants as fault
use Rattle.cube_facts.proofs.Filled.{start_marked, start_unmarked}
use Rattle.cube_facts.proofs.file.read_facts.Goals as goal

pub returns-then-has_second_mark-clause-said : goal.returns-then-has_second_mark-clause-said
returns-then-has_second_mark-clause-said c = inr (ap (filled c.args.dims.now) (start_marked c.args.dims.now c.args.bytes.now (sym c.has_second_mark.ensures ∙ c.if-has_second_mark.true)))

pub returns-clause-said : goal.returns-clause-said
returns-clause-said c =
    let is = start_unmarked c.args.dims.now c.args.bytes.now (sym c.has_second_mark.ensures ∙ c.if-has_second_mark.false) in
    subst (λ said. Answers fault.NoMemory c.read_facts_of.result (filled c.args.dims.now said)) (ap (facts_in c.args.dims.now) c.new.ensures ∙ sym is) c.read_facts_of.ensures.said

use Rattle.csv.specs.Records.{fields_of}
use Rattle.cube_facts.proofs.Filled.{fact_rules}
use Rattle.cube_facts.proofs.blocks.read_held.Goals as goal

pub returns-in-Ok-clause-found : goal.returns-in-Ok-clause-found
returns-in-Ok-clause-found g c = λ is. (
    let said = c.in-Ok.ensures in
    let f = fields_of c.next_record.new.row in (
      c.in_ok-next_record.ensures.found c.if-not-branch.false,
      record {
        sound = said.ok;
        is = said.fact;
        rules = fact_rules c.args.layout.now.dims.now c.args.layout.now.header f (record { leaves = c.read_fact.new.leaves.items; units = c.read_fact.new.units.items }) c.requires.rules said.fact said.bounded;
        few = said.few;
      },
    ))

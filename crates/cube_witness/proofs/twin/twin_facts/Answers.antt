use Rattle.cube_witness.proofs.Carried.{twin_read}
use Rattle.cube_witness.proofs.twin.twin_facts.Goals as goal

pub returns-clause-reads_back : goal.returns-clause-reads_back
returns-clause-reads_back c =
    twin_read c.args.core.now c.args.measure c.args.changes.now c.write_twin.result c.dims-rules.ensures.rules c.requires.measure c.write_twin.ensures.text c.write_twin.ensures.within

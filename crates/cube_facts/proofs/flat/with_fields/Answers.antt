use Rattle.std.proofs.Common.{sym}
use Rattle.csv.specs.Records.{fields_of}
use Rattle.cube_facts.proofs.Fields.{fields_more}
use Rattle.cube_facts.proofs.flat.with_fields.Goals as goal

pub loop-column-preserved : goal.loop-column-preserved
loop-column-preserved c =
    fields_more c.args.names c.loop-column.all c.in_ok-all.all (fields_of c.args.row.now) c.loop-column.column c.in-Some.field.now c.loop-column.invariant c.in_ok-all.ensures (sym c.in-Some.ensures.value)

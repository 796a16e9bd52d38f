use Rattle.std.proofs.Common.{[], sym}
use Rattle.csv.specs.Records.{fields_of}
use Rattle.cube_facts.proofs.Fields.{fields_more}
use Rattle.cube_facts.proofs.layout.texts_of.Goals as goal

pub loop-place-preserved : goal.loop-place-preserved
loop-place-preserved c =
    let pushed = rw c.in_ok-from_bytes.ensures at c.in_ok-push.ensures.ok in
    fields_more [] c.loop-place.texts c.push.new.self (fields_of c.args.row.now) c.loop-place.place c.in-Some.field.now c.loop-place.invariant pushed (sym c.in-Some.ensures.value)

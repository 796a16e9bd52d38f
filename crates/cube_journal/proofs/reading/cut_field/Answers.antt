use Rattle.std.proofs.Common.{◌+◌, ◌-◌, length, drop, arith, sym}
use Rattle.std.proofs.lemmas.List.{take_all, length-drop}
use Rattle.cube_journal.proofs.Fields.{fields_some}
use Rattle.cube_journal.proofs.reading.cut_field.Goals as goal

pub returns-in-Some-clause-more : goal.returns-in-Some-clause-more
returns-in-Some-clause-more c =
    let all = take_all (length c.args.text.now - (c.in-Some.at + 1)) (drop (c.in-Some.at + 1) c.args.text.now) (omega (arith, length-drop (c.in-Some.at + 1) c.args.text.now)) in
    rw all (fields_some c.args.text.now c.in-Some.at (sym c.in-Some.ensures.at))

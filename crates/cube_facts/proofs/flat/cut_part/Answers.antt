use Rattle.std.proofs.Common.{◌+◌, ◌-◌, length, drop, arith, sym}
use Rattle.std.proofs.lemmas.List.{take_all, length-drop}
use Rattle.cube_facts.proofs.Parts.{parts_some}
use Rattle.cube_facts.proofs.flat.cut_part.Goals as goal

pub returns-in-Some-clause-more : goal.returns-in-Some-clause-more
returns-in-Some-clause-more c =
    let all = take_all (length c.args.line.now - (c.in-Some.at + 1)) (drop (c.in-Some.at + 1) c.args.line.now) (omega (arith, length-drop (c.in-Some.at + 1) c.args.line.now)) in
    rw all (parts_some c.args.line.now c.in-Some.at (sym c.in-Some.ensures))

use Rattle.std.proofs.Common.{◌+◌, ◌-◌, length, drop, arith, sym}
use Rattle.std.proofs.lemmas.List.{take_all, length-drop}
use Rattle.cube_script.proofs.Reading.{lines_some}
use Rattle.cube_script.proofs.read.cut_line.Goals as goal

pub returns-in-Some-clause-some : goal.returns-in-Some-clause-some
returns-in-Some-clause-some c =
    let all = take_all (length c.args.text.now - (c.in-Some.at + 1)) (drop (c.in-Some.at + 1) c.args.text.now) (omega (arith, length-drop (c.in-Some.at + 1) c.args.text.now)) in
    rw all (lines_some c.args.text.now c.in-Some.at (sym c.in-Some.ensures.at))

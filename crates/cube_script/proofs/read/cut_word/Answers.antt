use Rattle.std.proofs.Common.{◌+◌, ◌-◌, length, drop, arith, sym}
use Rattle.std.proofs.lemmas.List.{take_all, length-drop}
use Rattle.cube_script.proofs.Reading.{words_some}
use Rattle.cube_script.proofs.read.cut_word.Goals as goal

pub returns-in-Some-clause-some : goal.returns-in-Some-clause-some
returns-in-Some-clause-some c =
    let all = take_all (length c.args.line.now - (c.in-Some.at + 1)) (drop (c.in-Some.at + 1) c.args.line.now) (omega (arith, length-drop (c.in-Some.at + 1) c.args.line.now)) in
    rw all (words_some c.args.line.now c.in-Some.at (sym c.in-Some.ensures.at))

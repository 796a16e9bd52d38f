use Rattle.std.proofs.Common.{◌≡◌, length, arith, rules, w8, SFits}
use Rattle.std.proofs.lemmas.Int.{to_z-of_z}
use Rattle.cube_witness.proofs.Moves.{no_more, one_more, moves_below, moves_there}
use Rattle.cube_witness.proofs.finding.moves_of.Goals as goal
use Rattle.cube_witness.proofs.finding.moves_of.Goals.{then-is_move+in_ok-push, else-is_move}

pub signs-preserved : goal.signs-preserved
signs-preserved c =
    let range : SFits w8 c.sign_at-by.result = search rules in
    let test = rw (to_z-of_z w8 c.sign_at-by.result range) at c.is_move.ensures in
    elim c.if-is_move.branch [
      | then-is_move+in_ok-push w ↦
          let made = rw (to_z-of_z w8 c.sign_at-by.result range) at w.move_at.ensures in
          one_more c.args.signs.now c.signs.made w.push.new.self c.if-is_move.made c.signs.place c.sign_at-by.result c.is_move.result w.move_at.result c.sign_at-by.ensures test w.if-is_move.true c.signs.invariant made w.in_ok-push.ensures.ok w.made-is
      | else-is_move w ↦ no_more c.args.signs.now c.signs.made c.if-is_move.made c.signs.place c.sign_at-by.result c.is_move.result c.sign_at-by.ensures test w.if-is_move.false c.signs.invariant w.made-is
    ]

pub returns-clause-places : goal.returns-clause-places
returns-clause-places c = let at_end : c.signs.place ≡ length c.args.signs.now = omega arith in moves_there c.signs.made c.signs.place (length c.args.signs.now) at_end (moves_below c.args.signs.now c.signs.made c.signs.place c.signs.invariant)

use Rattle.std.proofs.Common.{arith}
use Rattle.std.proofs.lemmas.Int.Digits.{digits_value_more}
use Rattle.cube_text.proofs.Digits.{digit_at}
use Rattle.cube_words.proofs.words.capped_value.Goals as goal

pub loop-digit-preserved : goal.loop-digit-preserved
loop-digit-preserved c =
    let more = digits_value_more 10 c.args.digits.now c.loop-digit.digit-index c.loop-digit-test.true in
    let d = digit_at c.args.digits.now c.loop-digit.digit-index c.loop-digit-test.true c.requires in
    rw more (omega (arith, d.0, d.1, c.loop-digit.invariant, c.from.ensures, c.min-value.ensures))

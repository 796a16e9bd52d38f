use Rattle.std.proofs.Common.{◌≤◌, ◌<◌, get_or, length, arith, sym, ◌∙◌}
use Rattle.std.proofs.lemmas.Int.Digits.{digits_value_more}
use Rattle.cube_facts.proofs.Numbers.{digits_more, front_small, digit_is}
use Rattle.cube_facts.proofs.plain.front_digits.Goals as goal

pub returns-then-not-is_ascii_digit-clause-small : goal.returns-then-not-is_ascii_digit-clause-small
returns-then-not-is_ascii_digit-clause-small c =
    let l : c.loop-place.place ≤ length c.args.text.now = omega (arith, c.loop-place.auto.place-end, c.min-most.ensures) in
    let few : c.loop-place.place ≤ 12 = omega (arith, c.loop-place.auto.place-end, c.min-most.ensures) in
    let small = front_small c.args.text.now c.loop-place.place l few c.loop-place.invariant.digits in
    omega (arith, small, c.loop-place.invariant.value)

pub overflow_mul-value : goal.overflow_mul-value
overflow_mul-value c =
    let l : c.loop-place.place ≤ length c.args.text.now = omega (arith, c.loop-place.auto.place-end, c.min-most.ensures) in
    let few : c.loop-place.place ≤ 12 = omega (arith, c.loop-place.auto.place-end, c.min-most.ensures) in
    let small = front_small c.args.text.now c.loop-place.place l few c.loop-place.invariant.digits in
    omega (arith, small, c.loop-place.invariant.value)

pub overflow_add-value : goal.overflow_add-value
overflow_add-value c =
    let l : c.loop-place.place ≤ length c.args.text.now = omega (arith, c.loop-place.auto.place-end, c.min-most.ensures) in
    let few : c.loop-place.place ≤ 12 = omega (arith, c.loop-place.auto.place-end, c.min-most.ensures) in
    let small = front_small c.args.text.now c.loop-place.place l few c.loop-place.invariant.digits in
    omega (arith, c.type_inv.text c.loop-place.place, small, c.loop-place.invariant.value, c.from.ensures)

pub loop-place-preserved : goal.loop-place-preserved
loop-place-preserved c =
    let text = c.args.text.now in
    let i = c.loop-place.place in
    let below : i < length text = omega (arith, c.loop-place-test.true, c.min-most.ensures) in
    let digit = sym c.is_ascii_digit.ensures.value ∙ c.if-not-is_ascii_digit.false in
    let d = digit_is (get_or text i 0) digit in
    let more = digits_value_more 10 text i below in
    record {
      digits = digits_more text i below c.loop-place.invariant.digits digit;
      value = rw more (omega (arith, d.0, d.1, c.loop-place.invariant.value, c.from.ensures));
    }

pub returns-clause-small : goal.returns-clause-small
returns-clause-small c =
    let l : c.loop-place.place ≤ length c.args.text.now = omega (arith, c.loop-place.auto.place-end, c.min-most.ensures) in
    let few : c.loop-place.place ≤ 12 = omega (arith, c.loop-place.auto.place-end, c.min-most.ensures) in
    let small = front_small c.args.text.now c.loop-place.place l few c.loop-place.invariant.digits in
    omega (arith, small, c.loop-place.invariant.value)

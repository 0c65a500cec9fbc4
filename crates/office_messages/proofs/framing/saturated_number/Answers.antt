use Rattle.std.proofs.Common.{arith, get_or}
use Rattle.std.proofs.lemmas.Int.Digits.{digits_value_more}
use Rattle.exam_lists.proofs.Digits.{digit_at, value_of_digit}
use Rattle.office_messages.proofs.framing.saturated_number.Goals as goal

pub loop-digit-preserved : goal.loop-digit-preserved
loop-digit-preserved c =
    let more =
    digits_value_more 10 c.args.digits.now c.loop-digit.digit-index c.loop-digit-test.true in
    let digit =
    digit_at c.args.digits.now c.loop-digit.digit-index c.requires c.loop-digit-test.true in
    let value = value_of_digit (get_or c.args.digits.now c.loop-digit.digit-index 0) digit in
    omega (arith, c.loop-digit.invariant, more, value.2)

use Rattle.std.proofs.Common.{arith}
use Rattle.exam_lists.proofs.Digits.{nine_digits_front}
use Rattle.office_policy.proofs.DigitLemmas.{one_more}
use Rattle.office_policy.proofs.numbers.value.Goals as goal

-- one digit more keeps the number below 10 ^ 9
pub overflow_mul-value : goal.overflow_mul-value
overflow_mul-value c =
    let more =
    one_more c.args.digits.now c.loop-digit.digit-index c.loop-digit.value
    c.requires.digits c.requires.few c.loop-digit-test.true c.loop-digit.invariant in
    omega arith

pub overflow_add-value : goal.overflow_add-value
overflow_add-value c =
    let more =
    one_more c.args.digits.now c.loop-digit.digit-index c.loop-digit.value
    c.requires.digits c.requires.few c.loop-digit-test.true c.loop-digit.invariant in
    omega arith

-- it is the value of the digits up to here
pub loop-digit-preserved : goal.loop-digit-preserved
loop-digit-preserved c =
    let more =
    one_more c.args.digits.now c.loop-digit.digit-index c.loop-digit.value
    c.requires.digits c.requires.few c.loop-digit-test.true c.loop-digit.invariant in
    omega (arith, more.same)

pub returns-clause-within : goal.returns-clause-within
returns-clause-within c =
    nine_digits_front c.args.digits.now c.loop-digit.digit-index c.loop-digit.value
    c.requires.digits c.requires.few c.loop-digit.invariant

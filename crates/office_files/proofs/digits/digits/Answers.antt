use Rattle.std.proofs.Common.{◌≡◌, ◌-◌, ◌<◌, true, false, get_or, ap, subst, ◌∙◌, arith}
use Rattle.std.specs.Char.{is_ascii_digit}
use Rattle.std.specs.Int.Bits.{bit_xor}
use Rattle.office_files.proofs.ReadOnLemmas.{low_is_digit, high_is_none, small_room, has-more}
use Rattle.office_files.proofs.digits.digits.Goals as goal

-- a number of eight digits or fewer has room for one more
pub overflow_mul-value : goal.overflow_mul-value
overflow_mul-value c =
    let room = small_room c.loop-i.value c.loop-i.i (omega arith) c.loop-i.invariant.small in
    omega arith

pub overflow_add-value : goal.overflow_add-value
overflow_add-value c =
    let room = small_room c.loop-i.value c.loop-i.i (omega arith) c.loop-i.invariant.small in
    omega arith

-- one more digit
pub loop-i-preserved : goal.loop-i-preserved
loop-i-preserved c =
    let byte : c.from-digit.result < 256 = omega (arith, c.type_inv.text c.loop-i.i) in
    let low = low_is_digit c.from-digit.result byte c.if-digit-gt9.false in
    let is : is_ascii_digit (get_or c.args.text.now c.loop-i.i 0) ≡ true
    = subst (λ b. is_ascii_digit b ≡ true) c.from-digit.ensures low.0 in
    has-more c.args.text.now c.loop-i.value c.loop-i.i (bit_xor c.from-digit.result 48)
    c.loop-i-test.true is (low.1 ∙ ap (λ b. b - 48) c.from-digit.ensures) c.loop-i.invariant

pub returns-then-digit-gt9-clause-whole : goal.returns-then-digit-gt9-clause-whole
returns-then-digit-gt9-clause-whole c lt =
    let byte : c.from-digit.result < 256 = omega (arith, c.type_inv.text c.loop-i.i) in
    subst (λ b. is_ascii_digit b ≡ false) c.from-digit.ensures
    (high_is_none c.from-digit.result byte c.if-digit-gt9.true)

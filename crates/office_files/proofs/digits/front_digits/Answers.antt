use Rattle.std.proofs.Common.{◌≡◌, ◌-◌, ◌<◌, true, false, ap, subst, ◌∙◌, arith}
use Rattle.std.specs.Char.{is_ascii_digit}
use Rattle.office_files.proofs.ReadOnLemmas.{eight_front, high_is_none, low_is_digit, nine_front}
use Rattle.office_files.proofs.digits.front_digits.Goals as goal

-- the ninth byte is no digit
pub returns-then-digit-gt9 : goal.returns-then-digit-gt9
returns-then-digit-gt9 c =
    let byte : c.from-digit.result < 256 = omega (arith, c.type_inv.line 8) in
    let read = c.eight_digits-value.result in
    eight_front c.args.line.now read.0 read.1 (omega arith) (omega arith)
    c.eight_digits-value.ensures.front
    (subst (λ b. is_ascii_digit b ≡ false) c.from-digit.ensures
    (high_is_none c.from-digit.result byte c.if-digit-gt9.true))

-- it is one
pub returns : goal.returns
returns c =
    let byte : c.from-digit.result < 256 = omega (arith, c.type_inv.line 8) in
    let low = low_is_digit c.from-digit.result byte c.if-digit-gt9.false in
    let read = c.eight_digits-value.result in
    nine_front c.args.line.now read.0 read.1 _ (omega arith) (omega arith)
    c.eight_digits-value.ensures.front
    (subst (λ b. is_ascii_digit b ≡ true) c.from-digit.ensures low.0)
    (low.1 ∙ ap (λ b. b - 48) c.from-digit.ensures)

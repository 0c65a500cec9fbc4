-- Numbers with zeros in front.
use Rattle.std.proofs.Common.{◌≡◌, ℕ, ◌-◌, ◌^◌, [], false, length, append-nil, arith}
use Rattle.std.specs.Prelude.{decimal}
use Rattle.std.specs.Fmt.{padded_integral, format_spec, char_count, styled_decimal}
use Rattle.office_replies.specs.DayTexts.{zero_padded}

two_padded : (n : ℕ)
    → padded_integral (format_spec 32 0 4 2 (2 ^ 64 - 1)) false [] (decimal n) ≡ zero_padded 2 n
unfolding padded_integral char_count
two_padded n =
    let short : 2 - length (decimal n) - 0 - 0 ≡ 2 - length (decimal n) = omega arith in
    rw (short, append-nil (decimal n))

four_padded : (n : ℕ)
    → padded_integral (format_spec 32 0 4 4 (2 ^ 64 - 1)) false [] (decimal n) ≡ zero_padded 4 n
unfolding padded_integral char_count
four_padded n =
    let short : 4 - length (decimal n) - 0 - 0 ≡ 4 - length (decimal n) = omega arith in
    rw (short, append-nil (decimal n))

-- the text written for `{:02}`
pub two_written : (n : ℕ) → styled_decimal (format_spec 32 0 4 2 (2 ^ 64 - 1)) n ≡ zero_padded 2 n
two_written n = two_padded n

-- the text written for `{:04}`
pub four_written : (n : ℕ) → styled_decimal (format_spec 32 0 4 4 (2 ^ 64 - 1)) n ≡ zero_padded 4 n
four_written n = four_padded n

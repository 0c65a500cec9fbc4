-- Numbers in two digits and in four.
use Rattle.std.proofs.lemmas.Grind.{common_steps}
use Rattle.std.proofs.Common.{◌≡◌, ℕ, ◌+◌, ◌/◌, ◌%◌, ◌^◌, ◌-◌, ◌<◌, ◌≤◌, ◌++◌, ◌∷◌, [], arith, refl, false, inl, inr}
use Rattle.std.specs.Prelude.{decimal}
use Rattle.std.specs.Fmt.{padded_integral, format_spec, char_count}
use Rattle.std.proofs.lemmas.Fmt.{decimal_digit, decimal_step}
use Rattle.std.proofs.lemmas.Bool.{cases_lt}
use Rattle.office_files.specs.CanonicalLines.{two_digits}

-- a number of two digits
tens : (n : ℕ) → 10 ≤ n → n < 100 → decimal n ≡ two_digits n
tens n least most = grind (arith, common_steps, decimal_digit, decimal_step)

-- a number of three digits
hundreds : (n : ℕ) → 100 ≤ n → n < 1000
    → decimal n ≡ (48 + n / 100) ∷ two_digits (n % 100)
hundreds n least most = grind (arith, common_steps, decimal_step, tens)

-- a number of four digits
thousands : (n : ℕ) → 1000 ≤ n → n ≤ 9999 → decimal n ≡ two_digits (n / 100) ++ two_digits (n % 100)
thousands n least most = grind (arith, common_steps, decimal_step, hundreds)

-- the text written for `{:02}`
pub two_padded : (n : ℕ) → n < 100 →
    padded_integral (format_spec 32 0 4 2 (2 ^ 64 - 1)) false [] (decimal n) ≡ two_digits n
unfolding padded_integral char_count
two_padded n most = elim (cases_lt n 10) [
  | inl one ↦
      let high : n / 10 ≡ 0 = omega arith in
      let low : n % 10 ≡ n = omega arith in
      rw (decimal_digit n one, high, low) refl
  | inr two ↦ rw (tens n two most) refl
]

-- the text written for `{:04}`
pub four_padded : (n : ℕ) → n ≤ 9999 →
    padded_integral (format_spec 32 0 4 4 (2 ^ 64 - 1)) false [] (decimal n)
    ≡ two_digits (n / 100) ++ two_digits (n % 100)
unfolding padded_integral char_count
four_padded n most = elim (cases_lt n 10) [
  | inl one ↦
      let front : n / 100 ≡ 0 = omega arith in
      let back : n % 100 ≡ n = omega arith in
      let high : n / 10 ≡ 0 = omega arith in
      let low : n % 10 ≡ n = omega arith in
      rw (decimal_digit n one, front, back, high, low) refl
  | inr ten ↦ elim (cases_lt n 100) [
    | inl two ↦
        let front : n / 100 ≡ 0 = omega arith in
        let back : n % 100 ≡ n = omega arith in
        rw (tens n ten two, front, back) refl
    | inr hundred ↦ elim (cases_lt n 1000) [
      | inl three ↦
          let high : n / 100 / 10 ≡ 0 = omega arith in
          let low : n / 100 % 10 ≡ n / 100 = omega arith in
          rw (hundreds n hundred three, high, low) refl
      | inr four ↦ rw (thousands n four most) refl
    ]
  ]
]

pub ruleset digit_facts = (two_padded, four_padded)

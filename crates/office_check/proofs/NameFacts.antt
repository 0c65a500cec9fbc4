-- The characters of a name, one after another.
use Rattle.std.proofs.Common.{◌≡◌, ◌<◌, ◌≤◌, ◌/◌, ◌%◌, ◌-◌, ◌^◌, Option, Some, inl, inr, option_map, ◌++◌, ◌∷◌, [], ℕ, List, ap, ap₂, append-nil, append_assoc, arith, codes, encode_utf8, false, get_or, length, refl, suc, sym, true}
use Rattle.std.specs.Char.{is_ascii_control}
use Rattle.std.specs.Fmt.{digit_glyph, format_spec, padded_integral, radix_digits}
use Rattle.std.proofs.lemmas.Fmt.{hex_byte}
use Rattle.std.proofs.lemmas.Bool.{cases_lt}
use Rattle.std.proofs.lemmas.Bool.Decides.{nat_tests}
use Rattle.std.proofs.lemmas.Grind.{flat_map-append}
use Rattle.std.proofs.lemmas.Str.{encode_ascii, inside_one}
use Rattle.office_check.specs.Names.{printed_byte, printed_name}

-- no byte from 128 on is a control character
wide_byte : (b : ℕ) → 128 ≤ b → printed_byte b ≡ b ∷ []
wide_byte b wide = grind (arith, nat_tests)

-- such bytes are printed as they are
wide_bytes : (bs : List ℕ) → ((k : ℕ) → k < length bs → 128 ≤ get_or bs k 0)
    → printed_name bs ≡ bs
wide_bytes [] wide = refl
wide_bytes (b ∷ bs) wide =
    ap₂ (λ (one rest : List ℕ). one ++ rest) (wide_byte b (wide 0 (omega arith)))
    (wide_bytes bs (λ k below. wide (suc k) (omega (arith, below))))

-- a character from 128 on is printed as it is
wide_char : (c : ℕ) → 128 ≤ c → printed_name (encode_utf8 c) ≡ encode_utf8 c
wide_char c wide = wide_bytes (encode_utf8 c) all
  where
    all : (k : ℕ) → k < length (encode_utf8 c) → 128 ≤ get_or (encode_utf8 c) k 0
    all k below = elim (cases_lt (get_or (encode_utf8 c) k 0) 128) [
      | inl small ↦
          let same = inside_one c [] (encode_utf8 c) k (sym (append-nil (encode_utf8 c))) below
          small in absurd (omega arith)
      | inr wide ↦ wide
    ]

-- a control character is below 128
control_ascii : (c : ℕ) → is_ascii_control c ≡ true → c < 128
control_ascii c is = grind (arith, nat_tests)

-- one that is no control character is printed as it is
pub kept : (c : ℕ) → is_ascii_control c ≡ false → printed_name (encode_utf8 c) ≡ encode_utf8 c
kept c is = elim (cases_lt c 128) [
  | inl small ↦ rw (encode_ascii c small) (rw is refl)
  | inr wide ↦ wide_char c wide
]

-- a control character is printed in hexadecimal
pub escaped : (c : ℕ) → is_ascii_control c ≡ true → printed_name (encode_utf8 c)
    ≡ codes "\\x" ++ digit_glyph false (c / 16) ∷ digit_glyph false (c % 16) ∷ []
escaped c is = rw (encode_ascii c (control_ascii c is)) (rw is refl)

-- such a character as the format writes it
pub hex_written : (written : Option (List ℕ)) (c n : ℕ)
    → written ≡ Some (radix_digits 16 false n) → n ≡ c → is_ascii_control c ≡ true
    → option_map (padded_integral (format_spec 32 0 4 2 (2 ^ 64 - 1)) false []) written
    ≡ Some (digit_glyph false (c / 16) ∷ digit_glyph false (c % 16) ∷ [])
hex_written written c n digits same is =
    rw (digits, same) (ap (λ (bs : List ℕ). Some bs) (hex_byte false c (omega (arith, control_ascii c is))))

-- one more character
pub name_step : (done whole before after text : List ℕ) (c : ℕ) → before ≡ encode_utf8 c ++ after
    → printed_name (encode_utf8 c) ≡ text → done ++ printed_name before ≡ printed_name whole
    → (done ++ text) ++ printed_name after ≡ printed_name whole
name_step done whole before after text c splits prints so_far =
    rw (append_assoc, ← prints) (rw (← flat_map-append printed_byte) (rw (← splits) so_far))

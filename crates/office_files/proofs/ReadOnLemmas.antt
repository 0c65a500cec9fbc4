-- Digits at the front of a line, and the value of a field of few digits.
use Rattle.std.proofs.lemmas.Grind.{common_steps}
use Rattle.std.proofs.Common.{◌≡◌, ◌≢◌, ℕ, zero, suc, ◌+◌, ◌-◌, ◌*◌, ◌^◌, ◌<◌, ◌≤◌, rules}
use Rattle.std.proofs.Common.{Bool, true, false, List, [], ◌∷◌, ◌++◌, length, get_or, take, drop}
use Rattle.std.proofs.Common.{add-one, Some, None, refl, sym, ap, subst, eqb-true, ◌∙◌, inl, inr, arith, le-ltb}
use Rattle.std.specs.Prelude.{◌&&◌, ◌==◌, not, nat_le, nat_lt, if◌then◌else◌, map}
use mathlib.Core.Bool.{true≢false}
use Rattle.std.specs.Int.Bits.{bit_xor}
use Rattle.std.specs.List.{list_all, onto_first, range_with_len}
use Rattle.std.specs.Char.{digit_value, is_ascii_digit}
use Rattle.std.specs.Str.Parse.{digits_value, digits_value_after}
use Rattle.core.specs.Float.Numeral.{digits_len}
use Rattle.std.proofs.Math.Nat.{pow-le-pow_right, pow-suc}
use Rattle.std.proofs.lemmas.Bool.{eq-eqb, ne_eqb, and_parts, lt-ltb, le-leb, lt-leb}
use Rattle.std.proofs.lemmas.Bool.{cases_lt, cases_eq}
use Rattle.std.proofs.lemmas.List.{take-append-drop, take-take, length-take, length-take-le}
use Rattle.std.proofs.lemmas.List.{length-append, append-nil}
use Rattle.std.proofs.lemmas.List.Sums.{prefix_len-le-length, prefix_len_passes, prefix_len_stops}
use Rattle.std.proofs.lemmas.List.Folds.{list_all_at, list_all_more}
use Rattle.std.proofs.lemmas.List.FromFn.{get_or-range_with_len, length-range_with_len}
use Rattle.std.proofs.Math.Bool.{and-false}
use Rattle.exam_lists.proofs.Digits.{digit_range}
use Rattle.exam_lists.proofs.Parts.{drop_at_head}
use Rattle.exam_lists.proofs.Tests.{all_fails}
use Rattle.exam_terms.specs.Texts.{is_blank, before_end, trim_end, trimmed_text}
use Rattle.office_files.specs.Fields.{ended_parts, fields_of, first_field, other_fields}
use Rattle.office_files.specs.Numbers.{read_on, is_number, at_most, number}
use Rattle.office_files.specs.Digits.{HasDigits, NoDigitAt, IsFront, few_digits, without_space}
use Rattle.office_files.proofs.FieldLemmas.{parts_some}

abbrev AllDigits : List ℕ → Type 0
AllDigits xs = list_all is_ascii_digit xs ≡ true

-- one more digit
pub read_on-more : (n : ℕ) (xs : List ℕ) (i : ℕ) → i < length xs →
    read_on n (take (i + 1) xs) ≡ 10 * read_on n (take i xs) + (get_or xs i 0 - 48)
read_on-more n [] i lt = absurd (omega arith)
read_on-more n (d ∷ ds) zero lt = refl
read_on-more n (d ∷ ds) (suc i) lt =
    search (rules, read_on-more (10 * n + (d - 48)) ds i (omega arith))

-- a number of eight digits or fewer has room for one more
pub small_room : (n i : ℕ) → i < 9 → n < 10 ^ i → n < 100000000
small_room n i lt small = grind (arith, common_steps, pow-le-pow_right)

pub small_more : (n i d : ℕ) → n < 10 ^ i → d ≤ 9 → 10 * n + d < 10 ^ (i + 1)
small_more n i d small digit =
    let next : 10 ^ (i + 1) ≡ 10 ^ i * 10 = rw add-one (pow-suc 10 i) in omega arith

-- a byte and 48, bit by bit: at most 9 for a digit, and then its value, and more for any other byte
digit_decided : ℕ → Bool
digit_decided b =
    if nat_le (bit_xor b 48) 9 then is_ascii_digit b && (bit_xor b 48 == b - 48)
    else not (is_ascii_digit b)

all_decided : list_all digit_decided (range_with_len 0 256) ≡ true
unfolding digit_decided
all_decided = refl

byte_decided : (b : ℕ) → b < 256 → digit_decided b ≡ true
byte_decided b lt =
    let at : get_or (range_with_len 0 256) b 0 ≡ b =
    omega (arith, get_or-range_with_len 0 256 b 0 lt) in
    elim (digit_decided b) as (λ t. digit_decided b ≡ t → digit_decided b ≡ true) [
      | true ↦ λ e. e
      | false ↦ λ e.
          absurd (true≢false (sym all_decided ∙ list_all_at digit_decided (range_with_len 0 256) b 0
          (omega (arith, length-range_with_len 0 256))
          (ap digit_decided at ∙ e)))
    ] refl

pub low_is_digit : (b : ℕ) → b < 256 → bit_xor b 48 ≤ 9
    → (is_ascii_digit b ≡ true) × (bit_xor b 48 ≡ b - 48)
unfolding digit_decided
low_is_digit b lt low =
    let decided = subst (λ t. (if t then is_ascii_digit b && (bit_xor b 48 == b - 48)
    else not (is_ascii_digit b)) ≡ true) (le-leb (bit_xor b 48) 9 low) (byte_decided b lt) in
    let both = and_parts (is_ascii_digit b) (bit_xor b 48 == b - 48) decided in
    (both.0, eqb-true (bit_xor b 48) (b - 48) both.1)

pub high_is_none : (b : ℕ) → b < 256 → 9 < bit_xor b 48 → is_ascii_digit b ≡ false
unfolding digit_decided
high_is_none b lt high = grind (arith, common_steps, byte_decided, lt-leb)

pub digit_no_blank : (b : ℕ) → is_ascii_digit b ≡ true → is_blank b ≡ false
digit_no_blank b e = grind (arith, common_steps, digit_range, ne_eqb)

-- one more digit at the front
pub has-more : (text : List ℕ) (value count digit : ℕ) → count < length text →
    is_ascii_digit (get_or text count 0) ≡ true → digit ≡ get_or text count 0 - 48 →
    HasDigits text value count → HasDigits text (10 * value + digit) (count + 1)
has-more text value count digit lt is same has =
    grind (arith, common_steps, digit_range, list_all_more, read_on-more, small_more)

-- the digits at the front of a text's first bytes are those of the text
pub has_front : (most : ℕ) (text : List ℕ) (value count : ℕ) →
    HasDigits (take most text) value count →
    HasDigits text value count
has_front most text value count has = grind (arith, common_steps, length-take, take-take)

first-onto : (b : ℕ) (parts : List (List ℕ)) → first_field (onto_first b parts) ≡ b ∷ first_field parts
first-onto b [] = refl
first-onto b (x ∷ xs) = refl

rest-onto : (b : ℕ) (parts : List (List ℕ)) → other_fields (onto_first b parts) ≡ other_fields parts
rest-onto b [] = refl
rest-onto b (x ∷ xs) = refl

-- a byte that is no comma begins its part
part-byte : (b : ℕ) (bs : List ℕ) → b ≢ 44 →
    first_field (ended_parts 44 (b ∷ bs)) ≡ b ∷ first_field (ended_parts 44 bs)
part-byte b bs other = rw (ne_eqb b 44 other) (first-onto b (ended_parts 44 bs))

-- such a byte is not in the other parts
others-byte : (b : ℕ) (bs : List ℕ) → b ≢ 44 →
    other_fields (ended_parts 44 (b ∷ bs)) ≡ other_fields (ended_parts 44 bs)
others-byte b bs other = rw (ne_eqb b 44 other) (rest-onto b (ended_parts 44 bs))

digit_no_comma : (d : ℕ) (ds : List ℕ) → AllDigits (d ∷ ds) → d ≢ 44
digit_no_comma d ds all same = grind (arith, common_steps, and_parts, digit_range)

-- digits come first in their part, followed by the rest of it
part-digits : (ds after : List ℕ) → AllDigits ds →
    first_field (ended_parts 44 (ds ++ after)) ≡ ds ++ first_field (ended_parts 44 after)
part-digits [] after all = refl
part-digits (d ∷ ds) after all =
    let both = and_parts (is_ascii_digit d) (list_all is_ascii_digit ds) all in
    part-byte d (ds ++ after) (digit_no_comma d ds all)
    ∙ ap (λ (xs : List ℕ). d ∷ xs) (part-digits ds after both.1)

others-digits : (ds after : List ℕ) → AllDigits ds →
    other_fields (ended_parts 44 (ds ++ after)) ≡ other_fields (ended_parts 44 after)
others-digits [] after all = refl
others-digits (d ∷ ds) after all =
    let both = and_parts (is_ascii_digit d) (list_all is_ascii_digit ds) all in
    others-byte d (ds ++ after) (digit_no_comma d ds all) ∙ others-digits ds after both.1

few_digits-all : (ds : List ℕ) → 0 < length ds → length ds ≤ 9 → AllDigits ds →
    few_digits ds ≡ Some (read_on 0 ds)
few_digits-all ds some few all =
    rw (lt-ltb 0 (length ds) some, all, le-leb (length ds) 9 few) refl

few_digits-long : (text : List ℕ) → 9 < length text → few_digits text ≡ None
few_digits-long text long = rw (lt-leb (length text) 9 long, and-false (is_number text)) refl

few_digits-other : (text : List ℕ) → list_all is_ascii_digit text ≡ false → few_digits text ≡ None
few_digits-other text other = rw (other, and-false (nat_lt 0 (length text))) refl

-- a part that doesn't begin with a digit is no number
pub no_digit : (line : List ℕ) → NoDigitAt line 0 →
    few_digits (first_field (ended_parts 44 line)) ≡ None
no_digit [] other = refl
no_digit (b ∷ bs) other =
    grind (arith, common_steps, all_fails, cases_eq, eq-eqb, few_digits-other, part-byte)

-- the number that digits write is their value
written : (n : ℕ) (ds : List ℕ) → AllDigits ds → digits_value_after 10 n ds ≡ read_on n ds
written n [] all = refl
written n (d ∷ ds) all =
    let both = and_parts (is_ascii_digit d) (list_all is_ascii_digit ds) all in
    ap (λ m. digits_value_after 10 m ds) (digit d (digit_range d both.0))
    ∙ written (10 * n + (d - 48)) ds both.1
  where
    digit : (d : ℕ) → (48 ≤ d) × (d ≤ 57) → n * 10 + digit_value d ≡ 10 * n + (d - 48)
    digit d range = rw (le-ltb d 48 range.0, lt-ltb d 58 (omega arith)) (omega arith)

-- the digits at the front of a text say a number
front_has : (text : List ℕ) (count : ℕ) → count ≤ digits_len text
    → HasDigits text (read_on 0 (take count text)) count
front_has text zero le =
    record { within = omega arith; digits = refl; same = refl; small = omega arith }
front_has text (suc i) le =
    let within = prefix_len-le-length is_ascii_digit text in
    let lt : i < length text = omega arith in
    let is = prefix_len_passes is_ascii_digit text i 0 (omega arith) in
    let more = has-more text (read_on 0 (take i text)) i (get_or text i 0 - 48) lt is refl
    (front_has text i (omega arith)) in
    let all : read_on 0 (take (i + 1) text)
    ≡ 10 * read_on 0 (take i text) + (get_or text i 0 - 48) = read_on-more 0 text i lt in
    rw (← add-one i) (subst (λ n. HasDigits text n (i + 1)) (sym all) more)

-- the value of the digits at the front of eight bytes
pub eight_have : (text : List ℕ) (end value : ℕ) → length text ≤ 8 → end ≡ digits_len text
    → value ≡ digits_value 10 (take end text)
    → HasDigits text value end × NoDigitAt text end × (value < 100000000)
eight_have text end value few ends is =
    grind (
      arith,
      common_steps,
      front_has,
      pow-le-pow_right,
      prefix_len-le-length,
      prefix_len_stops,
      written,
    )

-- all of these bytes are digits
eight_are : (line : List ℕ) (value count : ℕ) → 8 < length line → 8 ≤ count
    → HasDigits (take 8 line) value count → count ≡ 8
eight_are line value count long most has =
    let within = has.within in omega (arith, length-take-le 8 line (omega arith))

-- eight digits, and no ninth
pub eight_front : (line : List ℕ) (value count : ℕ) → 8 < length line → 8 ≤ count
    → HasDigits (take 8 line) value count → is_ascii_digit (get_or line 8 0) ≡ false
    → IsFront line value count
eight_front line value count long most has other = search (rules, eight_are, has_front)

-- nine digits
pub nine_front : (line : List ℕ) (value count digit : ℕ) → 8 < length line → 8 ≤ count
    → HasDigits (take 8 line) value count → is_ascii_digit (get_or line 8 0) ≡ true
    → digit ≡ get_or line 8 0 - 48 → IsFront line (10 * value + digit) (count + 1)
nine_front line value count digit long most has is same =
    grind (
      arith,
      common_steps,
      eight_are line value count long most has,
      has-more,
      has_front 8 line value count has,
    )

module _ (line : List ℕ) (value count : ℕ) (is : IsFront line value count) where
  abbrev front : List ℕ
  front = take count line

  abbrev left : List ℕ
  left = drop count line

  size : length front ≡ count
  size = length-take-le count line is.has.within

  line_is : line ≡ front ++ left
  line_is = sym (take-append-drop count line)

  part_is : first_field (ended_parts 44 line) ≡ front ++ first_field (ended_parts 44 left)
  part_is =
      ap (λ xs. first_field (ended_parts 44 xs)) line_is ∙ part-digits front left is.has.digits

  others_are : other_fields (ended_parts 44 line) ≡ other_fields (ended_parts 44 left)
  others_are =
      ap (λ xs. other_fields (ended_parts 44 xs)) line_is ∙ others-digits front left is.has.digits

  value_is : first_field (ended_parts 44 left) ≡ [] → 0 < count →
      few_digits (first_field (ended_parts 44 line)) ≡ Some value
  value_is none some = grind (arith, common_steps, append-nil, few_digits-all, part_is, size)

  -- the line ends after them
  pub at_end : left ≡ [] → 0 < count →
      (few_digits (first_field (ended_parts 44 line)) ≡ Some value)
      × (ended_parts 44 left ≡ other_fields (ended_parts 44 line))
  at_end none some = grind (arith, common_steps, others_are, value_is)

  -- a comma ends them
  pub at_comma : (after : List ℕ) → left ≡ 44 ∷ after → 0 < count →
      (few_digits (first_field (ended_parts 44 line)) ≡ Some value)
      × (ended_parts 44 after ≡ other_fields (ended_parts 44 line))
  at_comma after next some = grind (arith, common_steps, others_are, value_is)

  -- another byte follows them
  pub at_other : (b : ℕ) (bs : List ℕ) → left ≡ b ∷ bs → b ≢ 44 →
      few_digits (first_field (ended_parts 44 line)) ≡ None
  at_other b bs next other =
      grind (
        arith,
        common_steps,
        all_fails,
        cases_lt,
        drop_at_head,
        few_digits-long,
        few_digits-other,
        length-append,
        part-byte,
        part_is,
        size,
      )

-- digits have no blanks at their end
trim_end_digits : (ds : List ℕ) → AllDigits ds → trim_end ds ≡ ds
trim_end_digits [] all = refl
trim_end_digits (d ∷ []) all =
    rw (digit_no_blank d (and_parts (is_ascii_digit d) (list_all is_ascii_digit []) all).0) refl
trim_end_digits (d ∷ e ∷ ds) all =
    let both = and_parts (is_ascii_digit d) (list_all is_ascii_digit (e ∷ ds)) all in
    ap (before_end d) (trim_end_digits (e ∷ ds) both.1)

-- digits have no blanks around them
trimmed_digits : (ds : List ℕ) → AllDigits ds → trimmed_text ds ≡ ds
trimmed_digits [] all = refl
trimmed_digits (d ∷ ds) all =
    grind (arith, common_steps, and_parts, digit_no_blank, trim_end_digits)

-- few digits are a number
few_parts : (text : List ℕ) (value : ℕ) → few_digits text ≡ Some value →
    (is_number text ≡ true) × (read_on 0 text ≡ value)
few_parts text value said = grind (arith, common_steps, and_parts)

number-few : (text : List ℕ) (value limit : ℕ) → few_digits text ≡ Some value →
    number limit (trimmed_text text) ≡ at_most limit value
number-few text value limit said = grind (arith, common_steps, and_parts, few_parts, trimmed_digits)

first-trimmed : (parts : List (List ℕ)) → first_field (map trimmed_text parts) ≡ trimmed_text (first_field parts)
first-trimmed [] = refl
first-trimmed (x ∷ xs) = refl

rest-trimmed : (parts : List (List ℕ)) → other_fields (map trimmed_text parts) ≡ map trimmed_text (other_fields parts)
rest-trimmed [] = refl
rest-trimmed (x ∷ xs) = refl

onto_space : (parts : List (List ℕ)) → 0 < length parts →
    map trimmed_text (onto_first 32 parts) ≡ map trimmed_text parts
onto_space [] some = absurd (omega arith)
onto_space (x ∷ xs) some = refl

-- a space in front of a line changes no field
pub fields_after_space : (line : List ℕ) → 0 < length line → fields_of line ≡ fields_of (32 ∷ line)
fields_after_space line some = sym (onto_space (ended_parts 44 line) (parts_some 44 line some))

-- a space at the start of a line with more text changes no field
fields_space : (line : List ℕ) → 0 < length (without_space line) →
    fields_of (without_space line) ≡ fields_of line
fields_space [] some = refl
fields_space (b ∷ bs) some = elim (cases_eq b 32) as (λ _. Kept) [
  | inl same ↦
      let space : 0 < length bs = rw (eq-eqb b 32 same) at some in
      rw (eq-eqb b 32 same, same) (sym (onto_space (ended_parts 44 bs) (parts_some 44 bs space)))
  | inr differs ↦ rw (ne_eqb b 32 differs) refl
]
  where
    Kept : Type 0
    Kept = fields_of (without_space (b ∷ bs)) ≡ fields_of (b ∷ bs)

some_line : (line : List ℕ) (value : ℕ) → few_digits (first_field (ended_parts 44 line)) ≡ Some value →
    0 < length line
some_line [] value said = cc
some_line (b ∷ bs) value said = omega arith

module _ (line : List ℕ) (value : ℕ)
    (said : few_digits (first_field (ended_parts 44 (without_space line))) ≡ Some value) where
  abbrev other : List ℕ
  other = without_space line

  same_fields : fields_of other ≡ fields_of line
  same_fields = fields_space line (some_line other value said)

  -- the first field of the line is that number
  pub number_first : (limit : ℕ) → number limit (first_field (fields_of line)) ≡ at_most limit value
  number_first limit = grind (arith, common_steps, first-trimmed, number-few, same_fields)

  -- the other fields are those after it
  pub rest_first : (after : List ℕ) → ended_parts 44 after ≡ other_fields (ended_parts 44 other) →
      fields_of after ≡ other_fields (fields_of line)
  rest_first after are = grind (arith, common_steps, rest-trimmed, same_fields)

-- A number printed in decimal is read back, also in a path.
use Rattle.std.proofs.Common.{◌≡◌, ℕ, ◌^◌, ◌<◌, ◌≤◌, false, List, [], ◌∷◌, ◌++◌, length}
use Rattle.std.proofs.Common.{Some, refl, ap, ◌∙◌, arith}
use Rattle.std.specs.Prelude.{decimal, ◌==◌}
use Rattle.std.specs.List.{AllByRecursion}
use Rattle.std.specs.Str.Parse.{AllDigits, digits_value}
use Rattle.std.proofs.lemmas.Bool.{ne_eqb}
use Rattle.std.proofs.lemmas.Fmt.{decimal_is_IsNumeral, length-decimal-le}
use Rattle.std.proofs.lemmas.Str.Parse.{digit_from_value}
use Rattle.exam_lists.proofs.Digits.{test-from_AllDigits}
use Rattle.matchit.specs.Rows.{param_token}
use Rattle.matchit.specs.Seek.{slash}
use Rattle.office_policy.specs.Numbers.{IsSmall, number_of}
use Rattle.office_requests.specs.Paths.{first_segment, rest_after_slash}
use Rattle.office_requests.specs.Patterns.{is_match, rest_of_segment}
use Rattle.office_requests.proofs.Plain.{EndsSegment}

-- ---- numbers

-- a text of a few digits with this value
record Writes (n : ℕ) (ds : List ℕ) : Type 0 where
  some : 0 < length ds
  few : length ds ≤ 9
  digits : AllDigits 10 ds
  value : digits_value 10 ds ≡ n

writes : (n : ℕ) → IsSmall n → Writes n (decimal n)
writes n small =
    let fits : n < 2 ^ 64 = omega arith in
    let is = decimal_is_IsNumeral n fits in
    record {
      some = is.0.0;
      few = length-decimal-le 9 n (omega arith) (omega arith) fits;
      digits = is.0.1;
      value = is.1;
    }

number_is : (n : ℕ) (ds : List ℕ) → Writes n ds → number_of ds ≡ Some n
number_is n [] is = absurd (omega (arith, is.some))
number_is n (b ∷ bs) is = grind (arith, test-from_AllDigits)

-- none of the bytes is a slash
abbrev pub NoSlash : List ℕ → Type 0
NoSlash ds = AllByRecursion (λ b. (b == 47) ≡ false) ds

without_slash : (ds : List ℕ) → AllDigits 10 ds → NoSlash ds
without_slash [] all = tt
without_slash (b ∷ bs) all = grind (arith, without_slash bs all.1, digit_from_value, ne_eqb)

-- ---- a number in a path

rest_is : (ds rest : List ℕ) → NoSlash ds → EndsSegment rest
    → rest_of_segment (ds ++ rest) ≡ rest
rest_is [] [] bare ends = refl
rest_is [] (b ∷ rest) bare ends = rw ends refl
rest_is (b ∷ bs) rest bare ends = rw bare.0 (rest_is bs rest bare.1 ends)

takes_text : (ds pattern rest : List ℕ) → 0 < length ds
    → NoSlash ds → EndsSegment rest
    → is_match (param_token ∷ pattern) (ds ++ rest) ≡ is_match pattern rest
takes_text [] pattern rest some bare ends = absurd (omega arith)
takes_text (b ∷ bs) pattern rest some bare ends =
    rw (bare.0, rest_is bs rest bare.1 ends) refl

first_is : (ds rest : List ℕ) → NoSlash ds → EndsSegment rest
    → first_segment (ds ++ rest) ≡ ds
first_is [] [] bare ends = refl
first_is [] (b ∷ rest) bare ends = rw ends refl
first_is (b ∷ bs) rest bare ends = rw bare.0 (ap (λ l. b ∷ l) (first_is bs rest bare.1 ends))

-- after a slash comes the rest
pub rest_of_digits : (ds rest : List ℕ) → NoSlash ds
    → rest_after_slash (ds ++ slash ∷ rest) ≡ rest
rest_of_digits [] rest bare = refl
rest_of_digits (b ∷ bs) rest bare = rw bare.0 (rest_of_digits bs rest bare.1)

-- a number in a pattern takes one in a path
pub takes_number : (n : ℕ) (pattern rest : List ℕ) → IsSmall n → EndsSegment rest
    → is_match (param_token ∷ pattern) (decimal n ++ rest) ≡ is_match pattern rest
takes_number n pattern rest small ends = grind (arith, takes_text, without_slash, writes)

-- the number that a path begins with is read
pub number_here : (n : ℕ) (rest : List ℕ) → IsSmall n → EndsSegment rest
    → number_of (first_segment (decimal n ++ rest)) ≡ Some n
number_here n rest small ends =
    let is = writes n small in
    ap number_of (first_is (decimal n) rest (without_slash (decimal n) is.digits) ends)
    ∙ number_is n (decimal n) is

-- a number has no slash
pub bare_number : (n : ℕ) → IsSmall n → NoSlash (decimal n)
bare_number n small = without_slash (decimal n) (writes n small).digits

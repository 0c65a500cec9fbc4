-- The values of one line of the weightings: its word, and the numbers after it.
use Rattle.std.proofs.lemmas.Grind.{common_steps}
use Rattle.std.proofs.Common.{◌≡◌, ℕ, Bool, true, false, List, [], ◌∷◌, ◌++◌, Result, Ok, Err, refl, ap, subst, ◌∙◌, arith, rules}
use Rattle.std.specs.Prelude.{not, codes, if◌then◌else◌}
use Rattle.std.specs.List.{list_any}
use Rattle.std.specs.Str.{str_eq_ignore_ascii_case}
use Rattle.std.proofs.lemmas.Slice.Eq.{bytes_eq-Decides}
use Rattle.std.proofs.lemmas.Bool.{not-true}
use Rattle.exam_lists.proofs.Results.{ok_same}
use Rattle.exam_terms.specs.Refusing.{◌>>=◌, unless}
use Rattle.exam_model.specs.declared.parts.Weights.{Weights}
use Rattle.office_files.specs.Fields.{first_field, other_fields}
use Rattle.office_files.specs.Numbers.{number}
use Rattle.office_files.specs.WeightLines.{field_after}
use Rattle.office_files.specs.Weightings.{weight_word, has_word, amount_in, front_in, weighting_by}
use Rattle.office_files.specs.Weightings.{weighting_line}
use Rattle.office_files.specs.Weights.{with_weighting, with_weightings}
use Rattle.office_files.specs.declared.counts.Counts.{Counts}
use Rattle.office_files.specs.declared.fault.FaultKind.{FaultKind}
use Rattle.office_files.specs.declared.fault.FaultKind.TheVariants.{BadWord, Repeated}
use Rattle.office_files.specs.declared.weightings.Weighting.{Weighting}
use Rattle.office_files.specs.declared.weightings.Weighting.TheVariants as said
use Rattle.office_files.specs.declared.weightings.WeightWord.{WeightWord}
use Rattle.office_files.specs.declared.weightings.WeightWord.TheVariants as word
use Rattle.office_files.proofs.ReadingLaws.{bind_ok, unless_ok}
use Rattle.exam_terms.specs.declared.limits.TheConstants.{MAX_AMOUNT}

-- ---- words

-- a word as it is written
abbrev pub text_of : WeightWord → List ℕ
text_of word.Row = codes "TWOINAROW"
text_of word.Day = codes "TWOINADAY"
text_of word.Spread = codes "PERIODSPREAD"
text_of word.Mixed = codes "NONMIXEDDURATIONS"
text_of word.Front = codes "FRONTLOAD"
text_of word.Night = codes "OVERNIGHT"

-- whether a text is a word, in large or small letters
abbrev is_word : WeightWord → List ℕ → Bool
is_word w text = str_eq_ignore_ascii_case text (text_of w)

-- a text is at most one word
no_other : (w v : WeightWord) (text : List ℕ) → is_word w text ≡ true
    → is_word v (text_of w) ≡ false → is_word v text ≡ false
no_other w v text is differ = grind (arith, common_steps, bytes_eq-Decides)

-- a text that is a word is read as it
pub word_read : (w : WeightWord) (text : List ℕ) → is_word w text ≡ true → weight_word text ≡ Ok w
word_read word.Row text is = rw is refl
word_read word.Day text is = rw (no_other word.Day word.Row text is refl, is) refl
word_read word.Spread text is = grind (arith, common_steps, no_other)
word_read word.Mixed text is = grind (arith, common_steps, no_other)
word_read word.Front text is = search (rules, no_other)
word_read word.Night text is = search (rules, no_other)

-- one of six tests, that of the word
abbrev test_of : WeightWord → Bool → Bool → Bool → Bool → Bool → Bool → Bool
test_of word.Row a b c d e f = a
test_of word.Day a b c d e f = b
test_of word.Spread a b c d e f = c
test_of word.Mixed a b c d e f = d
test_of word.Front a b c d e f = e
test_of word.Night a b c d e f = f

test_held : (a b c d e f : Bool) (w : WeightWord) →
    ◌≡◌ {A = Result WeightWord FaultKind}
    (if a then Ok word.Row else (if b then Ok word.Day else (if c then Ok word.Spread
    else (if d then Ok word.Mixed else (if e then Ok word.Front
    else (if f then Ok word.Night else Err BadWord)))))) (Ok w) →
    test_of w a b c d e f ≡ true
test_held true b c d e f word.Row is = refl
test_held false true c d e f word.Day is = refl
test_held false false true d e f word.Spread is = refl
test_held false false false true e f word.Mixed is = refl
test_held false false false false true f word.Front is = refl
test_held false false false false false true word.Night is = refl
test_held _ _ _ _ _ _ _ is = cc

tested : (w : WeightWord) (text : List ℕ) → test_of w (is_word word.Row text)
    (is_word word.Day text) (is_word word.Spread text) (is_word word.Mixed text)
    (is_word word.Front text) (is_word word.Night text) ≡ is_word w text
tested word.Row text = refl
tested word.Day text = refl
tested word.Spread text = refl
tested word.Mixed text = refl
tested word.Front text = refl
tested word.Night text = refl

-- a text that is read as a word is that word
pub read_word : (w : WeightWord) (text : List ℕ) → weight_word text ≡ Ok w → is_word w text ≡ true
read_word w text is = grind (arith, common_steps, test_held, tested)

-- ---- the values of one line

-- the word of a weighting
abbrev pub word_of : Weighting → WeightWord
word_of (said.Row n) = word.Row
word_of (said.Day n) = word.Day
word_of (said.Spread n) = word.Spread
word_of (said.Mixed n) = word.Mixed
word_of (said.Front n k v) = word.Front
word_of (said.Night n) = word.Night

pub has_its_word : (s : Weighting) → has_word (word_of s) s ≡ true
has_its_word (said.Row n) = refl
has_its_word (said.Day n) = refl
has_its_word (said.Spread n) = refl
has_its_word (said.Mixed n) = refl
has_its_word (said.Front n k v) = refl
has_its_word (said.Night n) = refl

pub its_word : (w : WeightWord) (s : Weighting) → has_word w s ≡ true → word_of s ≡ w
its_word word.Row (said.Row n) has = refl
its_word word.Day (said.Day n) has = refl
its_word word.Spread (said.Spread n) has = refl
its_word word.Mixed (said.Mixed n) has = refl
its_word word.Front (said.Front n k v) has = refl
its_word word.Night (said.Night n) has = refl
its_word _ _ has = cc

amount_read : (fields : List (List ℕ)) (n : ℕ) → amount_in fields ≡ Ok n
    → number MAX_AMOUNT (first_field fields) ≡ Ok n
amount_read fields n is = grind (arith, common_steps, bind_ok)

-- one number after a word
pub one_read : (make : ℕ → Weighting) (fields : List (List ℕ)) (s : Weighting)
    → (amount_in fields >>= λ n. Ok (make n)) ≡ Ok s
    → (n : ℕ) × (number MAX_AMOUNT (first_field fields) ≡ Ok n) × (make n ≡ s)
one_read make fields s is = grind (arith, common_steps, amount_read, bind_ok, ok_same)

-- the three numbers of the front load
pub front_read : (fields : List (List ℕ)) (s : Weighting) → front_in fields ≡ Ok s
    → (n : ℕ) × (k : ℕ) × (v : ℕ) × (number MAX_AMOUNT (field_after 0 fields) ≡ Ok n)
    × (number MAX_AMOUNT (field_after 1 fields) ≡ Ok k)
    × (number MAX_AMOUNT (field_after 2 fields) ≡ Ok v) × (said.Front n k v ≡ s)
front_read fields s is = grind (arith, common_steps, bind_ok, ok_same)

-- a weighting read by a word has that word
by_word : (w : WeightWord) (fields : List (List ℕ)) (s : Weighting) → weighting_by w fields ≡ Ok s
    → w ≡ word_of s
by_word word.Row fields s is = ap word_of (one_read said.Row fields s is).2
by_word word.Day fields s is = ap word_of (one_read said.Day fields s is).2
by_word word.Spread fields s is = ap word_of (one_read said.Spread fields s is).2
by_word word.Mixed fields s is = ap word_of (one_read said.Mixed fields s is).2
by_word word.Front fields s is = ap word_of (front_read fields s is).6
by_word word.Night fields s is = ap word_of (one_read said.Night fields s is).2

-- a line that was read: its word, which no earlier line has, and its numbers
pub record WasRead (before : List Weighting) (fields : List (List ℕ)) (s : Weighting) : Type 0 where
  pub word : weight_word (first_field fields) ≡ Ok (word_of s)
  pub new : list_any (has_word (word_of s)) before ≡ false
  pub by : weighting_by (word_of s) (other_fields fields) ≡ Ok s

pub was_read : (counts : Counts) (before : List Weighting) (fields : List (List ℕ)) (s : Weighting)
    → weighting_line counts before fields ≡ Ok s → WasRead before fields s
was_read counts before fields s is =
    let w = bind_ok (weight_word (first_field fields)) _ s is in
    let new = bind_ok (unless (not (list_any (has_word w.0) before)) Repeated) _ s w.2 in
    let same = by_word w.0 (other_fields fields) s new.2 in
    record {
      word = w.1 ∙ ap Ok same;
      new = subst (λ v. list_any (has_word v) before ≡ false) same
          (not-true _ (unless_ok _ Repeated new.0 new.1));
      by = subst (λ v. weighting_by v (other_fields fields) ≡ Ok s) same new.2;
    }

-- the weight of one more line is added to the others
pub one_more : (w : Weights) (ss : List Weighting) (s : Weighting)
    → with_weightings w (ss ++ s ∷ []) ≡ with_weighting (with_weightings w ss) s
one_more w [] s = refl
one_more w (x ∷ ss) s = one_more (with_weighting w x) ss s

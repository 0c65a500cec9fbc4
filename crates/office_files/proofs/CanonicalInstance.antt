-- The canonical text of an instance is a text of it.
use Rattle.std.proofs.lemmas.Grind.{common_steps}
use Rattle.std.proofs.Common.{◌≡◌, ℕ, zero, suc, ◌+◌, ◌*◌, ◌<◌, ◌≤◌, ◌/◌, false, List, [], ◌∷◌, ◌++◌, length, rules}
use Rattle.std.proofs.Common.{Ok, eqb, refl, sym, ap, subst, ◌∙◌, arith, length-append}
use Rattle.std.specs.Prelude.{map, decimal, codes, All, nat_lt, not, ◌==◌}
use Rattle.std.specs.List.{flat_map, AllByRecursion}
use Rattle.std.proofs.lemmas.Bool.{eq-eqb, lt-ltb, ne_eqb, or_left, or_right}
use Rattle.std.proofs.lemmas.List.Concat.{flat_map-cons}
use Rattle.std.proofs.lemmas.List.Elements.{All-head, All-tail}
use Rattle.std.proofs.lemmas.List.Sums.{sum_by-cons, sum_by_push}
use Rattle.exam_lists.proofs.Each.{each_from_All}
use Rattle.exam_lists.proofs.Maps.{length_flat_map-le}
use Rattle.exam_lists.proofs.Appended.{length_six, six_nested}
use Rattle.exam_lists.proofs.Tests.{all_apart}
use Rattle.exam_model.specs.Enrolments.{Enrolled, AreEnrolments, AreNumbers, IsAscending, has_number, students, pair_count}
use Rattle.exam_model.specs.Instance.{Session, IsInstance, PeriodRuleExists, RoomRuleExists}
use Rattle.exam_calendar.proofs.DateLemmas.{date_ranges}
use Rattle.exam_model.specs.Limits.{ExamInLimits, PeriodInLimits, RoomInLimits, WeightsInLimits}
use Rattle.exam_model.specs.declared.parts.Exam.{Exam}
use Rattle.exam_model.specs.declared.parts.Period.{Period}
use Rattle.exam_model.specs.declared.parts.Room.{Room}
use Rattle.exam_model.specs.declared.parts.Weights.{Weights}
use Rattle.exam_model.specs.declared.rules.PeriodRule.{PeriodRule}
use Rattle.exam_model.specs.declared.rules.PeriodRule.TheVariants.{After, Coincidence, Exclusion}
use Rattle.exam_model.specs.declared.rules.RoomRule.{RoomRule}
use Rattle.office_files.specs.CanonicalLines.{line_of, field_before, exam_text, period_text, room_text}
use Rattle.office_files.specs.CanonicalText.{header_text, section_text}
use Rattle.office_files.specs.CanonicalLines.{period_rule_text, room_rule_text, weighting_text}
use Rattle.office_files.specs.CanonicalText.{nights_of, weightings_of, exam_lines_of, canonical_instance}
use Rattle.office_files.specs.ExamLines.{ExamLine, exam_line, exam_of, pairs_on}
use Rattle.office_files.specs.Spelled.{exams_heading, periods_heading, rooms_heading}
use Rattle.office_files.specs.Spelled.{period_rules_heading}
use Rattle.office_files.specs.Spelled.{room_rules_heading, weightings_heading, counts_of}
use Rattle.office_files.specs.InstanceText.{InstanceText, instance_in}
use Rattle.office_files.specs.ItemLines.{period_line, room_line, period_rule_line, room_rule_line}
use Rattle.office_files.specs.Lines.{is_header}
use Rattle.office_files.specs.Sections.{IsSection}
use Rattle.office_files.specs.Weightings.{weighting_line}
use Rattle.office_files.specs.Weights.{with_weightings, no_weights}
use Rattle.office_files.specs.declared.counts.Counts.{Counts}
use Rattle.office_files.proofs.CanonicalItems.{exam_fields, exam_written, exam_back, period_fields, period_written, period_back, room_fields, room_written, room_back}
use Rattle.office_files.proofs.CanonicalItems.{period_rule_fields, period_rule_written, period_rule_back, room_rule_fields, room_rule_written, room_rule_back, weighting_fields, weightings_written, weightings_back}
use Rattle.office_files.proofs.CanonicalLines.{IsLine, AreRead, rows, decimal_first, length_decimal}
use Rattle.office_files.proofs.CanonicalSections.{IsWord, IsWritten, counted_said, plain_said, counted_field, plain_field, counted_short, plain_short, section_written, section_short, reads_within, at_section}
use Rattle.office_files.proofs.CanonicalSteps.{length_lines}
use Rattle.office_files.proofs.InstanceLaws.{text_is_read}

-- ---- the words of the headers

is_exams : IsWord (codes "Exams")
is_exams = record {
  field = record { some = omega arith; plain = refl };
  colon = all_apart (λ b. nat_lt 58 b) 58 refl (codes "Exams") refl;
  bracket = all_apart (λ b. not (b == 93)) 93 refl (codes "Exams") refl;
  same = refl;
  short = omega arith;
}

is_periods : IsWord (codes "Periods")
is_periods = record {
  field = record { some = omega arith; plain = refl };
  colon = all_apart (λ b. nat_lt 58 b) 58 refl (codes "Periods") refl;
  bracket = all_apart (λ b. not (b == 93)) 93 refl (codes "Periods") refl;
  same = refl;
  short = omega arith;
}

is_rooms : IsWord (codes "Rooms")
is_rooms = record {
  field = record { some = omega arith; plain = refl };
  colon = all_apart (λ b. nat_lt 58 b) 58 refl (codes "Rooms") refl;
  bracket = all_apart (λ b. not (b == 93)) 93 refl (codes "Rooms") refl;
  same = refl;
  short = omega arith;
}

is_period_rules : IsWord (codes "PeriodHardConstraints")
is_period_rules = record {
  field = record { some = omega arith; plain = refl };
  colon = all_apart (λ b. nat_lt 58 b) 58 refl (codes "PeriodHardConstraints") refl;
  bracket = all_apart (λ b. not (b == 93)) 93 refl (codes "PeriodHardConstraints") refl;
  same = refl;
  short = omega arith;
}

is_room_rules : IsWord (codes "RoomHardConstraints")
is_room_rules = record {
  field = record { some = omega arith; plain = refl };
  colon = all_apart (λ b. nat_lt 58 b) 58 refl (codes "RoomHardConstraints") refl;
  bracket = all_apart (λ b. not (b == 93)) 93 refl (codes "RoomHardConstraints") refl;
  same = refl;
  short = omega arith;
}

is_weightings : IsWord (codes "InstitutionalWeightings")
is_weightings = record {
  field = record { some = omega arith; plain = refl };
  colon = all_apart (λ b. nat_lt 58 b) 58 refl (codes "InstitutionalWeightings") refl;
  bracket = all_apart (λ b. not (b == 93)) 93 refl (codes "InstitutionalWeightings") refl;
  same = refl;
  short = omega arith;
}

-- ---- the sections

-- an exam's line within the limits
record IsSuch (e : ExamLine) : Type 0 where
  minutes : e.minutes ≤ 1440
  numbers : AllByRecursion (λ s. s ≤ 999999999) e.students
  ascending : IsAscending e.students

exams_such : (es : List Exam) (E : Enrolled) → All ExamInLimits es
    → ((e : ℕ) → e < length E → IsAscending (students E e))
    → AllByRecursion (AllByRecursion (λ s. s ≤ 999999999)) E
    → AllByRecursion IsSuch (exam_lines_of es E)
exams_such [] E limits up numbers = tt
exams_such (e ∷ es) [] limits up numbers = tt
exams_such (e ∷ es) (ss ∷ E) limits up numbers = (
  record {
    minutes = All-head ExamInLimits e es limits;
    numbers = numbers.0;
    ascending = up 0 (omega arith);
  },
  exams_such es E (All-tail ExamInLimits e es limits) (λ i lt. up (suc i) (omega arith)) numbers.1,
)

exams_read : (done es : List ExamLine) → AllByRecursion IsSuch es
    → pairs_on done + pairs_on es ≤ 200000 → AreRead exam_text exam_fields exam_line done es
exams_read done [] such fits = tt
exams_read done (e ∷ es) such fits =
    let count : ExamLine → ℕ = λ line. length line.students in
    let first = sum_by-cons count e es in
    let more = sum_by_push count done e in (
      exam_back (pairs_on done) e such.0.minutes such.0.numbers such.0.ascending (omega arith),
      exams_read (done ++ e ∷ []) es such.1 (omega arith),
    )

exam_lines : (es : List ExamLine) → AllByRecursion IsSuch es
    → AllByRecursion (λ e. IsLine (exam_text e) (exam_fields e)) es
exam_lines [] such = tt
exam_lines (e ∷ es) such = (exam_written e such.0.minutes such.0.numbers, exam_lines es such.1)

exam_none : (es : List ExamLine) → AllByRecursion IsSuch es
    → AllByRecursion (λ e. is_header (exam_text e) ≡ false) es
exam_none [] such = tt
exam_none (e ∷ es) such =
    (decimal_first e.minutes _ (omega (arith, such.0.minutes)), exam_none es such.1)

pairs_all : (es : List Exam) (E : Enrolled) → length E ≡ length es
    → pairs_on (exam_lines_of es E) ≡ pair_count E
pairs_all [] [] same = refl
pairs_all [] (ss ∷ E) same = absurd (omega arith)
pairs_all (e ∷ es) [] same = absurd (omega arith)
pairs_all (e ∷ es) (ss ∷ E) same =
    grind (arith, common_steps, pairs_all es E (omega arith), sum_by-cons)

exams_back : (es : List Exam) (E : Enrolled) → length E ≡ length es
    → map exam_of (exam_lines_of es E) ≡ es
exams_back [] E same = refl
exams_back (e ∷ es) [] same = absurd (omega arith)
exams_back (e ∷ es) (ss ∷ E) same = ap (λ (xs : List Exam). e ∷ xs) (exams_back es E (omega arith))

enrolled_back : (es : List Exam) (E : Enrolled) → length E ≡ length es
    → map (λ line. line.students) (exam_lines_of es E) ≡ E
enrolled_back [] [] same = refl
enrolled_back [] (ss ∷ E) same = absurd (omega arith)
enrolled_back (e ∷ es) [] same = absurd (omega arith)
enrolled_back (e ∷ es) (ss ∷ E) same =
    ap (λ (xs : Enrolled). ss ∷ xs) (enrolled_back es E (omega arith))

exams_whole : (es : List ExamLine) → AllByRecursion IsSuch es → pairs_on es ≤ 200000
    → 1 ≤ length es → length es ≤ 2000 → IsWritten exams_heading exam_line exam_text exam_fields es
exams_whole es such fits some most = record {
  headed = counted_said (codes "Exams") 2000 (length es) is_exams some most (omega arith);
  header = counted_field (codes "Exams") (length es) is_exams (omega arith);
  lines = exam_lines es such;
  none = exam_none es such;
  back = exams_read [] es such (omega (arith, fits));
}

module _ (counts : Counts) where
  periods_whole : (ps : List Period) → All PeriodInLimits ps → 1 ≤ length ps → length ps ≤ 200
      → IsWritten periods_heading (period_line counts) period_text period_fields ps
  periods_whole ps all some most = record {
    headed = counted_said (codes "Periods") 200 (length ps) is_periods some most (omega arith);
    header = counted_field (codes "Periods") (length ps) is_periods (omega arith);
    lines = each_from_All PeriodInLimits
        (λ p. IsLine (period_text p) (period_fields p)) period_written ps all;
    none = each_from_All PeriodInLimits (λ p. is_header (period_text p) ≡ false)
        (λ p is. ne_eqb (48 + p.date.day / 10) 91
        (λ same. omega (arith, (date_ranges p.date is.0).2.1)))
        ps all;
    back = reads_within periods_heading (period_line counts) period_text period_fields
        PeriodInLimits 200 (λ done p is lt. period_back p is) [] ps (omega (arith, most)) all;
  }

  rooms_whole : (rs : List Room) → All RoomInLimits rs → 1 ≤ length rs → length rs ≤ 200
      → IsWritten rooms_heading (room_line counts) room_text room_fields rs
  rooms_whole rs all some most = record {
    headed = counted_said (codes "Rooms") 200 (length rs) is_rooms some most (omega arith);
    header = counted_field (codes "Rooms") (length rs) is_rooms (omega arith);
    lines = each_from_All RoomInLimits (λ r. IsLine (room_text r) (room_fields r)) room_written rs all;
    none = each_from_All RoomInLimits (λ r. is_header (room_text r) ≡ false)
        (λ r is. decimal_first r.capacity _ (omega (arith, is.0))) rs all;
    back = reads_within rooms_heading (room_line counts) room_text room_fields
        RoomInLimits 200 (λ done r is lt. room_back r is) [] rs (omega (arith, most)) all;
  }

  rule_first : (r : PeriodRule) → PeriodRuleExists counts.exams r → counts.exams ≤ 2000
      → is_header (period_rule_text r) ≡ false
  rule_first (After a b) is le = decimal_first a _ (omega (arith, is.0))
  rule_first (Coincidence a b) is le = decimal_first a _ (omega (arith, is.0))
  rule_first (Exclusion a b) is le = decimal_first a _ (omega (arith, is.0))

  period_rules_whole : (rs : List PeriodRule) → counts.exams ≤ 2000
      → All (PeriodRuleExists counts.exams) rs → length rs ≤ 5000
      → IsWritten period_rules_heading
      (period_rule_line counts) period_rule_text period_rule_fields rs
  period_rules_whole rs le all most = record {
    headed = plain_said (codes "PeriodHardConstraints") is_period_rules;
    header = plain_field (codes "PeriodHardConstraints") is_period_rules;
    lines = each_from_All (PeriodRuleExists counts.exams)
        (λ r. IsLine (period_rule_text r) (period_rule_fields r))
        (λ r is. period_rule_written counts.exams r le is) rs all;
    none = each_from_All (PeriodRuleExists counts.exams) (λ r. is_header (period_rule_text r) ≡ false)
        (λ r is. rule_first r is le) rs all;
    back = reads_within period_rules_heading (period_rule_line counts) period_rule_text
        period_rule_fields (PeriodRuleExists counts.exams) 5000
        (λ done r is lt. rw (lt-ltb (length done) 5000 lt) (period_rule_back counts.exams r le is))
        [] rs (omega (arith, most)) all;
  }

  room_rules_whole : (rs : List RoomRule) → counts.exams ≤ 2000
      → All (RoomRuleExists counts.exams) rs → length rs ≤ 5000
      → IsWritten room_rules_heading (room_rule_line counts) room_rule_text room_rule_fields rs
  room_rules_whole rs le all most = record {
    headed = plain_said (codes "RoomHardConstraints") is_room_rules;
    header = plain_field (codes "RoomHardConstraints") is_room_rules;
    lines = each_from_All (RoomRuleExists counts.exams)
        (λ r. IsLine (room_rule_text r) (room_rule_fields r))
        (λ r is. room_rule_written counts.exams r le is) rs all;
    none = each_from_All (RoomRuleExists counts.exams) (λ r. is_header (room_rule_text r) ≡ false)
        (λ r is. decimal_first r.0 _ (omega (arith, is))) rs all;
    back = reads_within room_rules_heading (room_rule_line counts) room_rule_text
        room_rule_fields (RoomRuleExists counts.exams) 5000
        (λ done r is lt. rw (lt-ltb (length done) 5000 lt) (room_rule_back counts.exams r le is))
        [] rs (omega (arith, most)) all;
  }

  nights_none : (n : ℕ)
      → AllByRecursion (λ s. is_header (weighting_text s) ≡ false) (nights_of n)
  nights_none zero = tt
  nights_none (suc n) = (refl, tt)

  weightings_whole : (w : Weights) → WeightsInLimits w
      → IsWritten weightings_heading (weighting_line counts) weighting_text weighting_fields
      (weightings_of w)
  weightings_whole w is = record {
    headed = plain_said (codes "InstitutionalWeightings") is_weightings;
    header = plain_field (codes "InstitutionalWeightings") is_weightings;
    lines = weightings_written w is;
    none = (refl, (refl, (refl, (refl, (refl, nights_none w.night)))));
    back = weightings_back counts w is;
  }

-- ---- how long the text is

line_length : (t : List ℕ) → length (line_of t) ≡ length t + 2
line_length t = length-append t (13 ∷ 10 ∷ [])

before_length : (f ys : List ℕ) → length (field_before f ys) ≡ length f + (length ys + 2)
before_length f ys = let e = length-append f (44 ∷ 32 ∷ ys) in omega arith

amount : (n : ℕ) → n ≤ 100000 → length (decimal n) ≤ 6
amount n le = length_decimal 6 n (omega arith) (omega arith) (omega arith)

four : (n : ℕ) → n < 10000 → length (decimal n) ≤ 4
four n lt = length_decimal 4 n (omega arith) lt (omega arith)

exam_short : (e : ExamLine) → IsSuch e
    → length (line_of (exam_text e)) ≤ 6 + length e.students * 11
exam_short e is =
    let text : ℕ → List ℕ = λ s. 44 ∷ 32 ∷ decimal s in
    let line = line_length (exam_text e) in
    let both = length-append (decimal e.minutes) (flat_map text e.students) in
    let minutes = four e.minutes (omega (arith, is.minutes)) in
    let others = length_flat_map-le text 11 e.students (numbers_short e.students is.numbers) in
    omega arith
  where
    numbers_short : (ss : List ℕ) → AllByRecursion (λ s. s ≤ 999999999) ss
        → AllByRecursion (λ s. length (44 ∷ 32 ∷ decimal s) ≤ 11) ss
    numbers_short [] all = tt
    numbers_short (s ∷ ss) all = grind (arith, common_steps, numbers_short ss all.1, length_decimal)

exams_short : (es : List ExamLine) → AllByRecursion IsSuch es
    → length (flat_map (λ e. line_of (exam_text e)) es) ≤ length es * 6 + pairs_on es * 11
exams_short [] such = omega arith
exams_short (e ∷ es) such =
    let f : ExamLine → List ℕ = λ e. line_of (exam_text e) in
    let count : ExamLine → ℕ = λ line. length line.students in
    let both : length (flat_map f (e ∷ es)) ≡ length (f e) + length (flat_map f es)
    = ap length (flat_map-cons f e es) ∙ length-append (f e) (flat_map f es) in
    let one = exam_short e such.0 in
    let pairs = sum_by-cons count e es in
    let others = exams_short es such.1 in
    omega arith

period_short : (p : Period) → PeriodInLimits p → length (line_of (period_text p)) ≤ 36
period_short p is = grind (arith, common_steps, amount, before_length, four, line_length)

room_short : (r : Room) → RoomInLimits r → length (line_of (room_text r)) ≤ 36
room_short r is = grind (arith, common_steps, amount, before_length, line_length)

rule_length : (a b : ℕ) (word : List ℕ) → a < 2000 → b < 2000 → length word ≤ 16
    → length (line_of (field_before (decimal a) (field_before word (decimal b)))) ≤ 36
rule_length a b word a_in b_in short = grind (arith, common_steps, before_length, four, line_length)

period_rule_short : (n : ℕ) (r : PeriodRule) → n ≤ 2000 → PeriodRuleExists n r
    → length (line_of (period_rule_text r)) ≤ 36
period_rule_short n (After a b) le is =
    rule_length a b (codes "AFTER") (omega (arith, is.0)) (omega (arith, is.1)) (omega arith)
period_rule_short n (Coincidence a b) le is = search (rules, rule_length)
period_rule_short n (Exclusion a b) le is =
    rule_length a b (codes "EXCLUSION") (omega (arith, is.0)) (omega (arith, is.1)) (omega arith)

room_rule_short : (n : ℕ) (r : RoomRule) → n ≤ 2000 → RoomRuleExists n r
    → length (line_of (room_rule_text r)) ≤ 36
room_rule_short n r le is = grind (arith, common_steps, before_length, four, line_length)

weighed_short : (word : List ℕ) (n : ℕ) → n ≤ 100000 → length word ≤ 17
    → length (line_of (word ++ 44 ∷ decimal n)) ≤ 36
weighed_short word n le short = grind (arith, common_steps, amount, length-append, line_length)

nights_short : (n : ℕ) → n ≤ 100000
    → AllByRecursion (λ s. length (line_of (weighting_text s)) ≤ 36) (nights_of n)
nights_short zero le = tt
nights_short (suc n) le = (weighed_short (codes "OVERNIGHT") (suc n) le (omega arith), tt)

-- at most one line
nights_few : (n : ℕ) → length (nights_of n) ≤ 1
nights_few zero = omega arith
nights_few (suc n) = omega arith

weightings_short : (w : Weights) → WeightsInLimits w
    → AllByRecursion (λ s. length (line_of (weighting_text s)) ≤ 36) (weightings_of w)
weightings_short w is = (
  weighed_short (codes "TWOINAROW") w.row is.0 (omega arith),
  (
    weighed_short (codes "TWOINADAY") w.day is.1 (omega arith),
    (
      weighed_short (codes "PERIODSPREAD") w.spread is.2 (omega arith),
      (
        weighed_short (codes "NONMIXEDDURATIONS") w.mixed is.3 (omega arith),
        (
          front_short w.front_exams w.front_periods w.front is.4 is.5 is.6,
          nights_short w.night is.7,
        ),
      ),
    ),
  ),
)
  where
    front_short : (n k v : ℕ) → n ≤ 100000 → k ≤ 100000 → v ≤ 100000
        → length (line_of
        (codes "FRONTLOAD" ++ 44 ∷ (decimal n ++ 44 ∷ (decimal k ++ 44 ∷ decimal v))))
        ≤ 36
    front_short n k v n_in k_in v_in =
        grind (arith, common_steps, amount, length-append, line_length)

-- ---- the whole

numbers_each : (ss : List ℕ) → AreNumbers ss → AllByRecursion (λ s. s ≤ 999999999) ss
numbers_each [] known = tt
numbers_each (s ∷ ss) known = (
  known s (or_left (eqb s s) (has_number ss s) (eq-eqb s s refl)),
  numbers_each ss (λ t is. known t (or_right (eqb s t) (has_number ss t) is)),
)

numbers_all : (E : Enrolled) → ((e : ℕ) → AreNumbers (students E e))
    → AllByRecursion (AllByRecursion (λ s. s ≤ 999999999)) E
numbers_all [] all = tt
numbers_all (ss ∷ E) all = (numbers_each ss (all 0), numbers_all E (λ e. all (suc e)))

abbrev with_exams : Session → List Exam → Session
with_exams I xs = record I { exams = xs }

abbrev with_weights : Session → Weights → Session
with_weights I w = record I { weights = w }

-- the line of nights sets the last weight
nights_weighed : (w : Weights) (n : ℕ)
    → with_weightings (record w { night = 0 }) (nights_of n) ≡ record w { night = n }
nights_weighed w zero = refl
nights_weighed w (suc n) = refl

-- the weights that are written are those that are read
weights_back : (w : Weights) → with_weightings no_weights (weightings_of w) ≡ w
weights_back w = nights_weighed w w.night

-- the written text describes the instance and its enrolments
pub instance_spelled : (I : Session) (E : Enrolled) → IsInstance I → AreEnrolments E
    → length E ≡ length I.exams → InstanceText (canonical_instance I E) I E
instance_spelled I E is kept fits =
    let es : List ExamLine = exam_lines_of I.exams E in
    let ws = weightings_of I.weights in
    let counts = counts_of es in
    let limits = is.limits in
    let counted = limits.counts in
    let many : length es ≡ length I.exams = length_lines I.exams E fits in
    let such = exams_such I.exams E limits.exams kept.ascending (numbers_all E kept.numbers) in
    let pairs = pairs_all I.exams E fits in
    let period_rules = rw (sym many) at is.numbers.period_rules in
    let room_rules = rw (sym many) at is.numbers.room_rules in
    let most : length es ≤ 2000 = omega (arith, counted.0.1) in
    let w1 = exams_whole es such (omega (arith, kept.pairs)) (omega (arith, counted.0.0)) most in
    let w2 = periods_whole counts I.periods limits.periods counted.1.0 counted.1.1 in
    let w3 = rooms_whole counts I.rooms limits.rooms counted.2.0 counted.2.1 in
    let w4 = period_rules_whole counts I.period_rules most period_rules counted.3 in
    let w5 = room_rules_whole counts I.room_rules most room_rules counted.4 in
    let w6 = weightings_whole counts I.weights limits.weights in
    let s1 : List ℕ = section_text exams_heading exam_text es in
    let s2 : List ℕ = section_text periods_heading period_text I.periods in
    let s3 : List ℕ = section_text rooms_heading room_text I.rooms in
    let s4 : List ℕ = section_text period_rules_heading period_rule_text I.period_rules in
    let s5 : List ℕ = section_text room_rules_heading room_rule_text I.room_rules in
    let s6 : List ℕ = section_text weightings_heading weighting_text ws in
    let t6 : List ℕ = s6 ++ [] in
    let t5 : List ℕ = s5 ++ t6 in
    let t4 : List ℕ = s4 ++ t5 in
    let t3 : List ℕ = s3 ++ t4 in
    let t2 : List ℕ = s2 ++ t3 in
    let a1 = section_written exams_heading exam_line exam_text exam_fields es w1 1 0 t2
    (at_section periods_heading (period_line counts) period_text period_fields I.periods w2 t3) in
    let a2 = section_written periods_heading
    (period_line counts) period_text period_fields I.periods w2
    a1.0 a1.1 t3
    (at_section rooms_heading (room_line counts) room_text room_fields I.rooms w3 t4) in
    let a3 = section_written rooms_heading (room_line counts) room_text room_fields I.rooms w3
    a2.0 a2.1 t4
    (at_section period_rules_heading
    (period_rule_line counts) period_rule_text period_rule_fields I.period_rules w4 t5) in
    let a4 = section_written period_rules_heading
    (period_rule_line counts) period_rule_text period_rule_fields I.period_rules w4
    a3.0 a3.1 t5
    (at_section room_rules_heading
    (room_rule_line counts) room_rule_text room_rule_fields I.room_rules w5 t6) in
    let a5 = section_written room_rules_heading
    (room_rule_line counts) room_rule_text room_rule_fields I.room_rules w5
    a4.0 a4.1 t6
    (at_section weightings_heading
    (weighting_line counts) weighting_text weighting_fields ws w6 []) in
    let a6 = section_written weightings_heading
    (weighting_line counts) weighting_text weighting_fields ws w6
    a5.0 a5.1 [] (λ line at. tt) in
    let whole : canonical_instance I E ≡ s1 ++ t2 = six_nested s1 s2 s3 s4 s5 s6 in
    let sizes = length_six s1 s2 s3 s4 s5 s6 in
    let l1 = exams_short es such in
    let l1' = length-append (line_of (header_text exams_heading (length es)))
    (flat_map (λ e. line_of (exam_text e)) es) in
    let h1 = counted_short (codes "Exams") (length es) is_exams most in
    let l2 = section_short periods_heading
    (period_line counts) period_text period_fields 36 I.periods
    (counted_short (codes "Periods") (length I.periods) is_periods (omega (arith, counted.1.1)))
    (each_from_All PeriodInLimits (λ p. length (line_of (period_text p)) ≤ 36) period_short I.periods
    limits.periods) in
    let l3 = section_short rooms_heading (room_line counts) room_text room_fields 36 I.rooms
    (counted_short (codes "Rooms") (length I.rooms) is_rooms (omega (arith, counted.2.1)))
    (each_from_All RoomInLimits (λ r. length (line_of (room_text r)) ≤ 36) room_short I.rooms
    limits.rooms) in
    let l4 = section_short period_rules_heading
    (period_rule_line counts) period_rule_text period_rule_fields 36 I.period_rules
    (plain_short (codes "PeriodHardConstraints") is_period_rules)
    (each_from_All (PeriodRuleExists (length es)) (λ r. length (line_of (period_rule_text r)) ≤ 36)
    (λ r ok. period_rule_short (length es) r most ok) I.period_rules period_rules) in
    let l5 = section_short room_rules_heading
    (room_rule_line counts) room_rule_text room_rule_fields 36 I.room_rules
    (plain_short (codes "RoomHardConstraints") is_room_rules)
    (each_from_All (RoomRuleExists (length es)) (λ r. length (line_of (room_rule_text r)) ≤ 36)
    (λ r ok. room_rule_short (length es) r most ok) I.room_rules room_rules) in
    let l6 = section_short weightings_heading
    (weighting_line counts) weighting_text weighting_fields 36 ws
    (plain_short (codes "InstitutionalWeightings") is_weightings)
    (weightings_short I.weights limits.weights) in
    let few = nights_few I.weights.night in
    record {
      within = omega
          (arith, kept.pairs, counted.0.1, counted.1.1, counted.2.1, counted.3, counted.4);
      said = record {
        exams = es;
        periods = I.periods;
        rooms = I.rooms;
        period_rules = I.period_rules;
        room_rules = I.room_rules;
        weightings = ws;
      };
      rest_after_exams = rows a1.0 a1.1 t2;
      rest_after_periods = rows a2.0 a2.1 t3;
      rest_after_rooms = rows a3.0 a3.1 t4;
      rest_after_period_rules = rows a4.0 a4.1 t5;
      rest_after_room_rules = rows a5.0 a5.1 t6;
      exams = subst
          (λ (t : List ℕ). IsSection exams_heading exam_line (rows 1 0 t) es (rows a1.0 a1.1 t2))
          (sym whole) a1.2;
      periods = a2.2;
      rooms = a3.2;
      period_rules = a4.2;
      room_rules = a5.2;
      weightings = a6.2;
      session = ap (λ (xs : List Exam). with_exams I xs) (sym (exams_back I.exams E fits))
          ∙ ap (λ (w : Weights). with_weights (with_exams I (map exam_of es)) w)
          (sym (weights_back I.weights));
      enrolled = sym (enrolled_back I.exams E fits);
    }

-- and is read as the same
pub instance_same : (I : Session) (E : Enrolled) → IsInstance I → AreEnrolments E
    → length E ≡ length I.exams → instance_in (canonical_instance I E) ≡ Ok (I, E)
instance_same I E is kept fits =
    text_is_read (canonical_instance I E) I E (instance_spelled I E is kept fits)

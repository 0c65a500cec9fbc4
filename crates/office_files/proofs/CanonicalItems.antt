-- The line written for an item reads back as the item.
use Rattle.std.proofs.lemmas.Grind.{common_steps}
use Rattle.std.proofs.Common.{◌≡◌, ◌≢◌, ℕ, zero, suc, ◌+◌, ◌-◌, ◌*◌, ◌/◌, ◌%◌, ◌<◌, ◌≤◌, true, rules}
use Rattle.std.proofs.Common.{List, [], ◌∷◌, ◌++◌, length, Some, None, Ok, refl, sym, subst, arith, append-nil}
use Rattle.std.specs.Prelude.{map, decimal, codes}
use Rattle.std.specs.List.{flat_map, AllByRecursion}
use Rattle.std.proofs.lemmas.Bool.{eq-eqb, ne_eqb, le-leb}
use Rattle.std.proofs.lemmas.List.Concat.{flat_map-cons}
use Rattle.std.proofs.Math.Bool.{or-false}
use Rattle.exam_calendar.specs.Dates.{is_civil}
use Rattle.exam_calendar.specs.declared.date.Date.{Date}
use Rattle.exam_calendar.proofs.DateLemmas.{date_ranges}
use Rattle.exam_model.proofs.SameSet.{same_list}
use Rattle.exam_model.specs.Enrolments.{IsAscending}
use Rattle.exam_model.specs.Instance.{PeriodRuleExists, RoomRuleExists}
use Rattle.exam_model.specs.Limits.{PeriodInLimits, RoomInLimits, WeightsInLimits}
use Rattle.exam_model.specs.declared.parts.Period.{Period}
use Rattle.exam_model.specs.declared.parts.Room.{Room}
use Rattle.exam_model.specs.declared.parts.Weights.{Weights}
use Rattle.exam_model.specs.declared.rules.PeriodRule.{PeriodRule}
use Rattle.exam_model.specs.declared.rules.PeriodRule.TheVariants.{After, Coincidence, Exclusion}
use Rattle.exam_model.specs.declared.rules.RoomRule.{RoomRule}
use Rattle.office_files.specs.CanonicalLines.{field_before, two_digits, date_text, time_text, exam_text}
use Rattle.office_files.specs.CanonicalLines.{period_text}
use Rattle.office_files.specs.CanonicalLines.{room_text, period_rule_text, room_rule_text}
use Rattle.office_files.specs.CanonicalLines.{weighting_text}
use Rattle.office_files.specs.CanonicalText.{nights_of, weightings_of}
use Rattle.office_files.specs.Dates.{date_of, time_of}
use Rattle.office_files.specs.ExamStudents.{with_students, named_in, fault_in}
use Rattle.office_files.specs.ExamLines.{ExamLine, exam_after_pairs}
use Rattle.office_files.specs.Fields.{split_once}
use Rattle.office_files.specs.Items.{period_in, room_in, period_rule_in, room_rule_in}
use Rattle.office_files.specs.Numbers.{number}
use Rattle.office_files.specs.Weightings.{weighting_line}
use Rattle.office_files.specs.declared.counts.Counts.{Counts}
use Rattle.office_files.specs.declared.weightings.Weighting.{Weighting}
use Rattle.office_files.specs.declared.weightings.Weighting.TheVariants.{Row, Day, Spread, Mixed, Front, Night}
use Rattle.office_files.proofs.CanonicalLines.{IsField, IsLine, plain_byte, plain_digit, line_single, line_before, line_comma, field_decimal, number_decimal, AreRead}
use Rattle.exam_model.proofs.StudentLemmas.{ascending-none}
use Rattle.office_files.proofs.ExamLineLemmas.{ascending-students, has-students}
use Rattle.office_files.proofs.ExamLinePairs.{students_in-within}

-- ---- rooms

abbrev pub room_fields : Room → List (List ℕ)
room_fields r = decimal r.capacity ∷ decimal r.penalty ∷ []

pub room_written : (r : Room) → RoomInLimits r → IsLine (room_text r) (room_fields r)
room_written r is =
    line_before (decimal r.capacity) (decimal r.penalty) (decimal r.penalty ∷ [])
    (field_decimal r.capacity (omega (arith, is.0)))
    (line_single (decimal r.penalty) (field_decimal r.penalty (omega (arith, is.1))))

pub room_back : (r : Room) → RoomInLimits r → room_in (room_fields r) ≡ Ok r
room_back r is = grind (arith, common_steps, number_decimal)

-- ---- rules

abbrev pub period_rule_fields : PeriodRule → List (List ℕ)
period_rule_fields (After a b) = decimal a ∷ codes "AFTER" ∷ decimal b ∷ []
period_rule_fields (Coincidence a b) = decimal a ∷ codes "EXAM_COINCIDENCE" ∷ decimal b ∷ []
period_rule_fields (Exclusion a b) = decimal a ∷ codes "EXCLUSION" ∷ decimal b ∷ []

rule_written : (a b : ℕ) (word : List ℕ) → IsField word → a < 2000 → b < 2000
    → IsLine (field_before (decimal a) (field_before word (decimal b))) (decimal a ∷ word ∷ decimal b ∷ [])
rule_written a b word is a_in b_in =
    line_before (decimal a) (field_before word (decimal b)) (word ∷ decimal b ∷ [])
    (field_decimal a (omega arith))
    (line_before word (decimal b) (decimal b ∷ []) is
    (line_single (decimal b) (field_decimal b (omega arith))))

pub period_rule_written : (n : ℕ) (r : PeriodRule) → n ≤ 2000 → PeriodRuleExists n r
    → IsLine (period_rule_text r) (period_rule_fields r)
period_rule_written n (After a b) le is =
    rule_written a b (codes "AFTER") (record { some = omega arith; plain = refl })
    (omega (arith, is.0)) (omega (arith, is.1))
period_rule_written n (Coincidence a b) le is =
    rule_written a b (codes "EXAM_COINCIDENCE") (record { some = omega arith; plain = refl })
    (omega (arith, is.0)) (omega (arith, is.1))
period_rule_written n (Exclusion a b) le is =
    rule_written a b (codes "EXCLUSION") (record { some = omega arith; plain = refl })
    (omega (arith, is.0)) (omega (arith, is.1))

pub period_rule_back : (n : ℕ) (r : PeriodRule) → n ≤ 2000 → PeriodRuleExists n r
    → period_rule_in n (period_rule_fields r) ≡ Ok r
period_rule_back n (After a b) le is = grind (arith, common_steps, number_decimal)
period_rule_back n (Coincidence a b) le is = grind (arith, common_steps, number_decimal)
period_rule_back n (Exclusion a b) le is = grind (arith, common_steps, number_decimal)

abbrev pub room_rule_fields : RoomRule → List (List ℕ)
room_rule_fields r = decimal r.0 ∷ codes "ROOM_EXCLUSIVE" ∷ []

pub room_rule_written : (n : ℕ) (r : RoomRule) → n ≤ 2000 → RoomRuleExists n r
    → IsLine (room_rule_text r) (room_rule_fields r)
room_rule_written n r le is =
    line_before (decimal r.0) (codes "ROOM_EXCLUSIVE") (codes "ROOM_EXCLUSIVE" ∷ [])
    (field_decimal r.0 (omega (arith, is)))
    (line_single (codes "ROOM_EXCLUSIVE") (record { some = omega arith; plain = refl }))

pub room_rule_back : (n : ℕ) (r : RoomRule) → n ≤ 2000 → RoomRuleExists n r
    → room_rule_in n (room_rule_fields r) ≡ Ok r
room_rule_back n r le is = rw (number_decimal (n - 1) r.0 (omega (arith, is)) (omega arith)) refl

-- ---- weightings

abbrev pub weighting_fields : Weighting → List (List ℕ)
weighting_fields (Row n) = codes "TWOINAROW" ∷ decimal n ∷ []
weighting_fields (Day n) = codes "TWOINADAY" ∷ decimal n ∷ []
weighting_fields (Spread n) = codes "PERIODSPREAD" ∷ decimal n ∷ []
weighting_fields (Mixed n) = codes "NONMIXEDDURATIONS" ∷ decimal n ∷ []
weighting_fields (Front n k w) = codes "FRONTLOAD" ∷ decimal n ∷ decimal k ∷ decimal w ∷ []
weighting_fields (Night n) = codes "OVERNIGHT" ∷ decimal n ∷ []

weighed_written : (word : List ℕ) (n : ℕ) → IsField word → n ≤ 100000
    → IsLine (word ++ 44 ∷ decimal n) (word ∷ decimal n ∷ [])
weighed_written word n is le =
    line_comma word (decimal n) (decimal n ∷ []) is
    (line_single (decimal n) (field_decimal n (omega arith)))

nights_written : (n : ℕ) → n ≤ 100000
    → AllByRecursion (λ s. IsLine (weighting_text s) (weighting_fields s)) (nights_of n)
nights_written zero le = tt
nights_written (suc n) le = (
  weighed_written (codes "OVERNIGHT") (suc n) (record { some = omega arith; plain = refl }) le,
  tt,
)

pub weightings_written : (w : Weights) → WeightsInLimits w
    → AllByRecursion (λ s. IsLine (weighting_text s) (weighting_fields s)) (weightings_of w)
weightings_written w is = (
  weighed_written (codes "TWOINAROW") w.row (record { some = omega arith; plain = refl }) is.0,
  (
    weighed_written (codes "TWOINADAY") w.day (record { some = omega arith; plain = refl }) is.1,
    (
      weighed_written (codes "PERIODSPREAD") w.spread
          (record { some = omega arith; plain = refl }) is.2,
      (
        weighed_written (codes "NONMIXEDDURATIONS") w.mixed
            (record { some = omega arith; plain = refl }) is.3,
        (
          front_written w.front_exams w.front_periods w.front is.4 is.5 is.6,
          nights_written w.night is.7,
        ),
      ),
    ),
  ),
)
  where
    front_written : (n k v : ℕ) → n ≤ 100000 → k ≤ 100000 → v ≤ 100000
        → IsLine (weighting_text (Front n k v)) (weighting_fields (Front n k v))
    front_written n k v n_in k_in v_in =
        let last = line_single (decimal v) (field_decimal v (omega arith)) in
        let two = line_comma (decimal k) (decimal v) (decimal v ∷ [])
        (field_decimal k (omega arith)) last in
        let three = line_comma (decimal n) (decimal k ++ 44 ∷ decimal v)
        (decimal k ∷ decimal v ∷ [])
        (field_decimal n (omega arith)) two in
        line_comma (codes "FRONTLOAD") (decimal n ++ 44 ∷ (decimal k ++ 44 ∷ decimal v))
        (decimal n ∷ decimal k ∷ decimal v ∷ []) (record { some = omega arith; plain = refl }) three

-- after the other five
nights_back : (counts : Counts) (w : Weights) (n : ℕ) → n ≤ 100000
    → AreRead weighting_text weighting_fields (weighting_line counts)
    (Row w.row ∷ Day w.day ∷ Spread w.spread ∷ Mixed w.mixed
    ∷ Front w.front_exams w.front_periods w.front ∷ []) (nights_of n)
nights_back counts w zero le = tt
nights_back counts w (suc n) le =
    (rw (number_decimal 100000 (suc n) le (omega arith)) refl, tt)

pub weightings_back : (counts : Counts) (w : Weights) → WeightsInLimits w
    → AreRead weighting_text weighting_fields (weighting_line counts) [] (weightings_of w)
weightings_back counts w is = (
  rw (number_decimal 100000 w.row is.0 (omega arith)) refl,
  (
    rw (number_decimal 100000 w.day is.1 (omega arith)) refl,
    (
      rw (number_decimal 100000 w.spread is.2 (omega arith)) refl,
      (
        rw (number_decimal 100000 w.mixed is.3 (omega arith)) refl,
        (
          rw (
            number_decimal 100000 w.front_exams is.4 (omega arith),
            number_decimal 100000 w.front_periods is.5 (omega arith),
            number_decimal 100000 w.front is.6 (omega arith),
          ) refl,
          nights_back counts w w.night is.7,
        ),
      ),
    ),
  ),
)

-- ---- exams

abbrev pub exam_fields : ExamLine → List (List ℕ)
exam_fields e = decimal e.minutes ∷ map decimal e.students

listed_written : (f : List ℕ) (ss : List ℕ) → IsField f → AllByRecursion (λ s. s ≤ 999999999) ss
    → IsLine (f ++ flat_map (λ s. 44 ∷ 32 ∷ decimal s) ss) (f ∷ map decimal ss)
listed_written f [] is all = rw append-nil (line_single f is)
listed_written f (s ∷ ss) is all =
    let text : ℕ → List ℕ = λ s. 44 ∷ 32 ∷ decimal s in
    let others = decimal s ++ flat_map text ss in
    subst (λ (t : List ℕ). IsLine (f ++ t) (f ∷ decimal s ∷ map decimal ss))
    (sym (flat_map-cons text s ss))
    (line_before f others (decimal s ∷ map decimal ss) is
    (listed_written (decimal s) ss (field_decimal s (omega (arith, all.0))) all.1))

pub exam_written : (e : ExamLine) → e.minutes ≤ 1440
    → AllByRecursion (λ s. s ≤ 999999999) e.students → IsLine (exam_text e) (exam_fields e)
exam_written e le all =
    listed_written (decimal e.minutes) e.students (field_decimal e.minutes (omega arith)) all

all_named : (ss : List ℕ) → AllByRecursion (λ s. s ≤ 999999999) ss
    → (named_in (map decimal ss) ≡ ss) × (fault_in (map decimal ss) ≡ None)
all_named [] all = (refl, refl)
all_named (s ∷ ss) all = grind (arith, common_steps, all_named ss all.1, number_decimal)

in_order : (ss : List ℕ) → IsAscending ss → with_students ss [] ≡ ss
in_order ss up =
    search (rules, ascending-none, ascending-students, has-students, or-false, same_list)

pub exam_back : (pairs : ℕ) (e : ExamLine) → e.minutes ≤ 1440
    → AllByRecursion (λ s. s ≤ 999999999) e.students → IsAscending e.students
    → pairs + length e.students ≤ 200000 → exam_after_pairs pairs (exam_fields e) ≡ Ok e
exam_back pairs e le all up fits =
    search (rules, all_named, in_order, number_decimal, students_in-within)

-- ---- dates and times

pub split_stop : (c : ℕ) (xs ys : List ℕ) → AllByRecursion (λ b. b ≢ c) xs
    → split_once c (xs ++ c ∷ ys) ≡ Some (xs, ys)
split_stop c [] ys other = rw (eq-eqb c c refl) refl
split_stop c (x ∷ xs) ys other = rw (ne_eqb x c other.0, split_stop c xs ys other.1) refl

two_apart : (n : ℕ) → n < 100 → AllByRecursion (λ b. b ≢ 58) (two_digits n)
two_apart n lt = ((λ same. omega arith), ((λ same. omega arith), tt))

number_two : (limit n : ℕ) → n < 100 → n ≤ limit → number limit (two_digits n) ≡ Ok n
number_two limit n lt le = grind (arith, common_steps, le-leb)

pub time_back : (p : Period) → p.hour ≤ 23 → p.minute ≤ 59 → p.second ≤ 59
    → time_of (time_text p) ≡ Ok (p.hour, p.minute, p.second)
time_back p hour minute second = grind (arith, common_steps, number_two, split_stop, two_apart)

number_four : (a b y : ℕ) → a < 100 → b < 100 → y ≡ a * 100 + b → y ≤ 9999
    → number 9999 (two_digits a ++ two_digits b) ≡ Ok y
number_four a b y a_in b_in is le = grind (arith, common_steps, le-leb)

pub date_back : (d : Date) → is_civil d ≡ true → date_of (date_text d) ≡ Ok d
date_back d civil =
    let ranges = date_ranges d civil in
    let year = ranges.0 in
    let month = ranges.1 in
    let day = ranges.2 in
    rw (
      split_stop 58 (two_digits d.day)
          (two_digits d.month ++ 58 ∷ (two_digits (d.year / 100) ++ two_digits (d.year % 100)))
          (two_apart d.day (omega (arith, day.1))),
      split_stop 58 (two_digits d.month) (two_digits (d.year / 100) ++ two_digits (d.year % 100))
          (two_apart d.month (omega (arith, month.1))),
      number_two 99 d.day (omega (arith, day.1)) (omega (arith, day.1)),
      number_two 99 d.month (omega (arith, month.1)) (omega (arith, month.1)),
      number_four (d.year / 100) (d.year % 100) d.year (omega (arith, year.1)) (omega arith)
          (omega arith) year.1,
      civil,
    ) refl

-- ---- periods

abbrev pub period_fields : Period → List (List ℕ)
period_fields p = date_text p.date ∷ time_text p ∷ decimal p.length ∷ decimal p.penalty ∷ []

two_field : (n : ℕ) → (plain_byte (48 + n / 10) ≡ true) × (plain_byte (48 + n % 10) ≡ true)
two_field n = (plain_digit (48 + n / 10) (omega arith), plain_digit (48 + n % 10) (omega arith))

date_field : (d : Date) → IsField (date_text d)
date_field d = grind (arith, common_steps, two_field)

time_field : (p : Period) → IsField (time_text p)
time_field p = grind (arith, common_steps, two_field)

pub period_written : (p : Period) → PeriodInLimits p → IsLine (period_text p) (period_fields p)
period_written p is =
    line_before (date_text p.date)
    (field_before (time_text p) (field_before (decimal p.length) (decimal p.penalty)))
    (time_text p ∷ decimal p.length ∷ decimal p.penalty ∷ []) (date_field p.date)
    (line_before (time_text p) (field_before (decimal p.length) (decimal p.penalty))
    (decimal p.length ∷ decimal p.penalty ∷ []) (time_field p)
    (line_before (decimal p.length) (decimal p.penalty) (decimal p.penalty ∷ [])
    (field_decimal p.length (omega (arith, is.4)))
    (line_single (decimal p.penalty) (field_decimal p.penalty (omega (arith, is.5))))))

pub period_back : (p : Period) → PeriodInLimits p → period_in (period_fields p) ≡ Ok p
period_back p is = grind (arith, common_steps, date_back, number_decimal, time_back)

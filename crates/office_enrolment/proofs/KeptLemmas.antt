-- What stays true of enrolments if one pair is added or removed.
use Rattle.std.proofs.lemmas.Grind.{common_steps}
use Rattle.std.proofs.Common.{◌≡◌, ◌∙◌, ℕ, ◌+◌, ◌<◌, ◌≤◌, true, false, List, [], ◌∷◌, length, set, get_or-set_other, get_or-set_same, sym, arith, rules}
use Rattle.std.specs.Prelude.{◌==◌, not}
use Rattle.std.proofs.lemmas.Bool.{and_parts, cases_eq, cases_lt, ne_eqb}
use Rattle.std.proofs.lemmas.List.{get_or_past, length-set, set_past, set-get_or}
use Rattle.std.proofs.lemmas.List.Sorted.{length_permutation}
use Rattle.std.proofs.lemmas.List.Sums.{sum_by-set}
use Rattle.exam_model.specs.Changes.{with_student, without_student, with_pair, without_pair}
use Rattle.exam_model.specs.Enrolments.{Enrolled, AreEnrolments, AreNumbers, IsAscending, has, has_number, pair_count, students}
use Rattle.exam_model.proofs.StudentLemmas.{ascending-none, ascending-with, ascending-without, has-with, has-without}
use Rattle.office_enrolment.proofs.PairRowLemmas.{with_again, with_new, without_again}

-- the students of each exam are ascending, also for an exam that doesn't exist
abbrev pub Ascend : Enrolled → Type 0
Ascend E = (e : ℕ) → IsAscending (students E e)

pub they_ascend : (E : Enrolled) → AreEnrolments E → Ascend E
they_ascend E is e = search (rules, cases_lt, get_or_past, ascending-none)

-- ---- a pair that changes nothing

pub pair_again : (E : Enrolled) (s e : ℕ) → Ascend E → has E s e ≡ true → with_pair E s e ≡ E
pair_again E s e up there = rw (with_again s (students E e) (up e) there) (set-get_or E e [])

pub no_pair_again : (E : Enrolled) (s e : ℕ) → Ascend E → has E s e ≡ false
    → without_pair E s e ≡ E
no_pair_again E s e up absent =
    rw (without_again s (students E e) (up e) absent) (set-get_or E e [])

-- a new pair raises the count by one
pub one_more_pair : (E : Enrolled) (s e : ℕ) → e < length E → has E s e ≡ false
    → pair_count (with_pair E s e) ≡ pair_count E + 1
one_more_pair E s e lt absent =
    let xs : List ℕ = students E e in
    let sums = sum_by-set length E e (with_student s xs) [] lt in
    let longer = length_permutation (s ∷ xs) (with_student s xs) (with_new s xs absent) in
    omega arith

-- ---- the invariant of the type

-- a fact about each exam's students, if one exam gets others
at_each : (E : Enrolled) (e f : ℕ) (new : List ℕ) (P : List ℕ → Type 0) → P new → P (students E f)
    → P (students (set E e new) f)
at_each E e f new P one other =
    grind (arith, common_steps, cases_lt, cases_eq, set, get_or-set_same, get_or-set_other, set_past)

numbers-with : (s : ℕ) (xs : List ℕ) → s ≤ 999999999 → AreNumbers xs
    → AreNumbers (with_student s xs)
numbers-with s xs known was t is = grind (arith, common_steps, cases_eq, ne_eqb, has-with)

numbers-without : (s : ℕ) (xs : List ℕ) → AreNumbers xs → AreNumbers (without_student s xs)
numbers-without s xs was t is =
    let both = and_parts (not (s == t)) (has_number xs t) (sym (has-without s xs t) ∙ is) in
    was t both.1

pub ascend_with : (E : Enrolled) (s e : ℕ) → Ascend E → Ascend (with_pair E s e)
ascend_with E s e up f =
    at_each E e f (with_student s (students E e)) IsAscending
    (ascending-with s (students E e) (up e)) (up f)

pub ascend_without : (E : Enrolled) (s e : ℕ) → Ascend E → Ascend (without_pair E s e)
ascend_without E s e up f =
    at_each E e f (without_student s (students E e)) IsAscending
    (ascending-without s (students E e) (up e)) (up f)

enrolments_put : (E : Enrolled) (e : ℕ) (new : List ℕ) → IsAscending new → AreNumbers new
    → pair_count (set E e new) ≤ 200000 → AreEnrolments E → AreEnrolments (set E e new)
enrolments_put E e new up numbers few was = record {
  exams = omega (arith, length-set E e new, was.exams);
  ascending = λ f lt. at_each E e f new IsAscending up (they_ascend E was f);
  pairs = few;
  numbers = λ f. at_each E e f new AreNumbers numbers (was.numbers f);
}

pub enrolments_with : (E : Enrolled) (s e : ℕ) → s ≤ 999999999
    → pair_count (with_pair E s e) ≤ 200000 → AreEnrolments E → AreEnrolments (with_pair E s e)
enrolments_with E s e known few was =
    enrolments_put E e (with_student s (students E e))
    (ascending-with s (students E e) (they_ascend E was e))
    (numbers-with s (students E e) known (was.numbers e)) few was

pub enrolments_without : (E : Enrolled) (s e : ℕ) → pair_count (without_pair E s e) ≤ 200000
    → AreEnrolments E → AreEnrolments (without_pair E s e)
enrolments_without E s e few was =
    enrolments_put E e (without_student s (students E e))
    (ascending-without s (students E e) (they_ascend E was e))
    (numbers-without s (students E e) (was.numbers e)) few was

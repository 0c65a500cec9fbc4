-- The enrolments after one exam's list of students is replaced.
use Rattle.std.proofs.Common.{◌≡◌, ℕ, ◌+◌, ◌<◌, ◌≤◌, List, [], length, set, inl, inr, arith}
use Rattle.std.proofs.Common.{get_or-set_other, get_or-set_same}
use Rattle.std.proofs.lemmas.Bool.{cases_eq}
use Rattle.std.proofs.lemmas.List.{length-set}
use Rattle.std.proofs.lemmas.List.Sums.{sum_by-set}
use Rattle.exam_model.specs.Enrolments.{Enrolled, AreEnrolments, AreNumbers, IsAscending, students, pair_count}

-- the number of pairs after these students are put into an empty exam
pub pair_count-enrol : (E : Enrolled) (e : ℕ) (xs : List ℕ) → e < length E → students E e ≡ [] →
    pair_count (set E e xs) ≡ pair_count E + length xs
pair_count-enrol E e xs lt none = grind (arith, sum_by-set)

-- the invariant of the type holds after it
pub enrolments_enrol : (E : Enrolled) (e : ℕ) (xs : List ℕ) → e < length E → students E e ≡ [] →
    IsAscending xs → AreNumbers xs → pair_count E + length xs ≤ 200000 → AreEnrolments E →
    AreEnrolments (set E e xs)
enrolments_enrol E e xs lt none up known fits was = record {
  exams = omega (arith, length-set E e xs, was.exams);
  ascending = λ f within. elim (cases_eq f e) [
    | inl same ↦ rw same (rw (get_or-set_same E e xs [] lt) up)
    | inr other ↦ rw (get_or-set_other E e f xs [] other)
        (was.ascending f (omega (arith, length-set E e xs)))
  ];
  pairs = omega (arith, pair_count-enrol E e xs lt none);
  numbers = λ f. elim (cases_eq f e) [
    | inl same ↦ rw same (rw (get_or-set_same E e xs [] lt) known)
    | inr other ↦ rw (get_or-set_other E e f xs [] other) (was.numbers f)
  ];
}

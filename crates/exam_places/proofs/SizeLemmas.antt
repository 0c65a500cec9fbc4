-- Bounds on students, and on what the tables have.
use Rattle.std.proofs.lemmas.Grind.{common_steps}
use Rattle.std.proofs.Common.{ℕ, ◌*◌, ◌<◌, ◌≤◌, Bool, [], length, arith}
use Rattle.std.proofs.lemmas.List.Sums.{count_by-le-length, get_or-le-sum_by}
use Rattle.exam_lists.proofs.Booleans.{cond_le}
use Rattle.exam_terms.specs.declared.place.Place.{Place}
use Rattle.exam_model.specs.Enrolments.{AreEnrolments, Enrolled, shared_students, size_of, students}
use Rattle.exam_model.proofs.SumLemmas.{sum_below-le}
use Rattle.exam_places.specs.declared.unplaced_exam.UnplacedExam.{UnplacedExam}
use Rattle.exam_places.specs.PeriodTable.{period_entry}
use Rattle.exam_places.specs.PlaceTable.{place_entry}
use Rattle.exam_places.specs.Shares.{shared_of}

-- no exam has more students than there are pairs
pub size_small : (E : Enrolled) → AreEnrolments E → (e : ℕ) → e < length E → size_of E e ≤ 200000
size_small E is e within = grind (arith, get_or-le-sum_by)

both_small : (E : Enrolled) → AreEnrolments E → (e f : ℕ) → e < length E
    → shared_students E e f ≤ 200000
both_small E is e f within = grind (arith, count_by-le-length, size_small)

pub shared_small : (E : Enrolled) → AreEnrolments E → (e f : ℕ) → e < length E → f < length E
    → shared_of E e f ≤ 200000
shared_small E is e f le lf = grind (arith, common_steps, both_small)

-- the students shared with the exams of a period
pub entry_shared : (u : UnplacedExam) → AreEnrolments u.enrolments.now → (i p : ℕ)
    → i ≤ length u.enrolments.now → u.exam < length u.enrolments.now
    → (period_entry u i p).shared ≤ i * 200000
entry_shared u is i p most within = grind (arith, cond_le, shared_small, sum_below-le)

-- the students at a place
pub entry_students : (u : UnplacedExam) → AreEnrolments u.enrolments.now → (i : ℕ) (at : Place)
    → i ≤ length u.enrolments.now
    → (place_entry u i at).students ≤ i * 200000
entry_students u is i at most = grind (arith, cond_le, size_small, sum_below-le)

-- What an unplaced exam meets in each period, among the exams below a number.
use Rattle.std.specs.Prelude.{◌≡◌, ℕ, ◌+◌, ◌<◌, Bool, ◌&&◌, ◌==◌, nat_lt, if◌then◌else◌, List, length, None, slice_index_or}
use Rattle.exam_model.specs.Sums.{sum_below}
use Rattle.exam_model.specs.Timetable.{Placing, place_of}
use Rattle.exam_rules.specs.Places.{place_satisfies}
use Rattle.exam_places.specs.declared.period_table.PeriodEntry.{PeriodEntry}
use Rattle.exam_places.specs.declared.unplaced_exam.UnplacedExam.{UnplacedExam}
use Rattle.exam_places.specs.Firsts.{first_below, found_or}
use Rattle.exam_places.specs.Shares.{shared_of}

-- whether an exam is in a period
abbrev pub is_in : Placing → ℕ → ℕ → Bool
is_in T p f = place_satisfies (λ at. at.period == p) (place_of T f)

-- how many students the exam shares with f
abbrev pub shared_with : UnplacedExam → ℕ → ℕ
shared_with u f = shared_of u.enrolments.now u.exam f

-- whether f is in a period and shares a student with the exam
abbrev pub clashes_in : UnplacedExam → ℕ → ℕ → Bool
clashes_in u p f = is_in u.timetable.now p f && nat_lt 0 (shared_with u f)

-- the entry of a period with no exam
abbrev pub no_exams_in : PeriodEntry
no_exams_in = record { shared = 0; first = None }

-- the entry of a period by the exams below i
abbrev pub period_entry : UnplacedExam → ℕ → ℕ → PeriodEntry
period_entry u i p = record {
  shared = sum_below i (λ f. if is_in u.timetable.now p f then shared_with u f else 0);
  first = first_below i (clashes_in u p);
}

-- an entry with one more exam
abbrev pub with_shared : UnplacedExam → ℕ → PeriodEntry → PeriodEntry
with_shared u f entry = record {
  shared = entry.shared + shared_with u f;
  first = found_or entry.first (nat_lt 0 (shared_with u f)) f;
}

-- the table has the entry of each period by the exams below i
pub record IsPeriodTable (u : UnplacedExam) (i : ℕ) (table : List PeriodEntry) : Type 0 where
  pub count : length table ≡ length u.instance.now.periods
  pub each : (p : ℕ) → p < length u.instance.now.periods
      → slice_index_or table p no_exams_in ≡ period_entry u i p

-- the students shared with the exams of a period, by a table
abbrev pub shared_in : List PeriodEntry → ℕ → ℕ
shared_in table p = (slice_index_or table p no_exams_in).shared

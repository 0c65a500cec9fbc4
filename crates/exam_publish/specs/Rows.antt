-- Seat rows: their students, exams and places, and their order.
use Rattle.std.specs.Prelude.{◌≡◌, ℕ, ◌<◌, ◌≤◌, Bool, ◌&&◌, ◌||◌, ◌==◌, nat_lt, List, length, Some, All, AllPairs, IsSome, map, filter}
use Rattle.std.specs.List.{range_with_len}
use Rattle.exam_terms.specs.declared.limits.TheConstants.{MAX_PAIRS, MAX_STUDENT}
use Rattle.exam_terms.specs.declared.place.Place.{Place}
use Rattle.exam_model.specs.Instance.{Session}
use Rattle.exam_model.specs.Enrolments.{Enrolled}
use Rattle.exam_model.specs.Fits.{PlaceExists}
use Rattle.exam_model.specs.Pairs.{Pair, ComesBefore}
use Rattle.exam_model.specs.Timetable.{Placing, place_of}
use Rattle.exam_publish.specs.declared.seat_row.SeatRow.{SeatRow}

-- the student and the exam that a row is of
abbrev pub row_pair : SeatRow → Pair
row_pair row = record { exam = row.exam; student = row.student }

-- the place of a row
abbrev pub row_place : SeatRow → Place
row_place row = record { period = row.period; room = row.room }

-- the students of an exam's rows
abbrev pub students_in : List SeatRow → ℕ → List ℕ
students_in rows e = map (λ row. row.student) (filter (λ row. row.exam == e) rows)

-- the enrolments represented by rows, for this many exams
abbrev pub enrolled_in : ℕ → List SeatRow → Enrolled
enrolled_in exams rows = map (students_in rows) (range_with_len 0 exams)

-- whether a pair has a smaller exam, or the same exam and a smaller student
abbrev pub is_pair_before : Pair → Pair → Bool
is_pair_before p q = nat_lt p.exam q.exam || ((p.exam == q.exam) && nat_lt p.student q.student)

-- of a smaller exam, or of the same exam and a smaller student
abbrev pub RowBefore : SeatRow → SeatRow → Type 0
RowBefore row other = ComesBefore (row_pair row) (row_pair other)

-- each row comes before all later ones, so no student has two rows of one exam
abbrev pub RowsInOrder : List SeatRow → Type 0
RowsInOrder rows = AllPairs RowBefore rows

-- the row has its exam's place
abbrev pub IsAtExam : Placing → SeatRow → Type 0
IsAtExam T row = place_of T row.exam ≡ Some (row_place row)

-- each row's student number is within its limit
abbrev pub AreNumbered : List SeatRow → Type 0
AreNumbered rows = All (λ row. row.student ≤ MAX_STUDENT) rows

-- the rows are a publication of a timetable in which each exam of the session has a place
pub record ArePublishedRows (I : Session) (rows : List SeatRow) (T : Placing) : Type 0 where
  pub exams : length T ≡ length I.exams
  pub places : All (PlaceExists I) T
  pub complete : (e : ℕ) → e < length T → IsSome (place_of T e)
  pub few : length rows ≤ MAX_PAIRS
  pub in_order : RowsInOrder rows
  pub at_exams : All (IsAtExam T) rows

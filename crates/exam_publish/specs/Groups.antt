-- Rows grouped by their students and by their exams.
use Rattle.std.specs.Prelude.{◌≡◌, ℕ, ◌<◌, ◌≤◌, Bool, ◌==◌, List, length, map, AllPairs, slice_index_or}
use Rattle.exam_model.specs.Instance.{Session}
use Rattle.exam_score.specs.Penalty.{PersonalPenalty}
use Rattle.exam_publish.specs.declared.seat_row.SeatRow.{SeatRow}
use Rattle.exam_publish.specs.Changed.{rows_of, students_of}
use Rattle.exam_publish.specs.Shares.{share_of}

-- whether a row is of an exam
abbrev pub is_of_exam : ℕ → SeatRow → Bool
is_of_exam e row = row.exam == e

-- the rows in the order of their students, those of one student as they were
pub record AreSorted (rows sorted : List SeatRow) : Type 0 where
  pub by_student : AllPairs (λ row other. row.student ≤ other.student) sorted
  pub same : (s : ℕ) → rows_of s sorted ≡ rows_of s rows
  pub students : students_of sorted ≡ students_of rows

-- the shares of these students
abbrev pub shares_in : Session → List SeatRow → List ℕ → List (ℕ × PersonalPenalty)
shares_in I rows students =
    map (λ s. (s, share_of I.periods I.weights (rows_of s rows))) students

-- the first n rows are of a student, and the next one is not
pub record IsRun (rows : List SeatRow) (s n : ℕ) : Type 0 where
  pub within : n ≤ length rows
  pub own : (k : ℕ) (d : SeatRow) → k < n → (slice_index_or rows k d).student ≡ s
  pub other : (d : SeatRow) → n < length rows → (slice_index_or rows n d).student ≡ s → ⊥

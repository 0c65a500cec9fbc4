-- The enrolments after a pair is added or removed, and the exams of one student.
use Rattle.std.specs.Prelude.{◌≡◌, ◌≢◌, ℕ, not, ◌==◌, nat_lt, if◌then◌else◌, List, [], ◌∷◌, length, filter, slice_set}
use Rattle.std.specs.List.{range_with_len}
use Rattle.exam_model.specs.Enrolments.{Enrolled, students, has}

-- an ascending list with a student added, once
abbrev pub with_student : ℕ → List ℕ → List ℕ
with_student s [] = s ∷ []
with_student s (t ∷ ts) =
    if nat_lt s t then s ∷ t ∷ ts else (if s == t then t ∷ ts else t ∷ with_student s ts)

-- a list without a student
abbrev pub without_student : ℕ → List ℕ → List ℕ
without_student s xs = filter (λ t. not (t == s)) xs

-- the enrolments with the pair added; unchanged if there is no such exam
abbrev pub with_pair : Enrolled → ℕ → ℕ → Enrolled
with_pair E s e = slice_set E e (with_student s (students E e))

-- the enrolments with the pair removed
abbrev pub without_pair : Enrolled → ℕ → ℕ → Enrolled
without_pair E s e = slice_set E e (without_student s (students E e))

-- the exams that a student sits, ascending
abbrev pub exams_sat : Enrolled → ℕ → List ℕ
exams_sat E s = filter (λ e. has E s e) (range_with_len 0 (length E))

-- only the student s may sit other exams in new than in old
abbrev pub ChangesOnly : ℕ → Enrolled → Enrolled → Type 0
ChangesOnly s old new = (t : ℕ) → t ≢ s → exams_sat new t ≡ exams_sat old t

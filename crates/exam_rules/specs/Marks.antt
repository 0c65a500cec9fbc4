-- Marks for students: the exams that a student may sit, as far as they must be known.
use Rattle.std.specs.Prelude.{◌≡◌, ℕ, ◌-◌, ◌%◌, List, length, slice_index}
use Rattle.std.specs.Int.{bit_at}
use Rattle.std.specs.Int.RustNames.{bit_and}

-- the slot of a student, out of this many
abbrev pub slot_of : ℕ → ℕ → ℕ
slot_of slots s = bit_and s (slots - 1)

-- the marks of a student, who may share them with other students
abbrev pub marks_of : List ℕ → ℕ → ℕ
marks_of slots s = slice_index slots (slot_of (length slots) s)

-- the exam is marked, or another exam with the same mark is
abbrev pub Has : ℕ → ℕ → Type 0
Has marks e = bit_at marks (e % 64) ≡ 1

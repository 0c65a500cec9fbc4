use Rattle.std.proofs.Common.{◌≡◌, ℕ, ◌||◌, take}
use Rattle.exam_model.specs.Enrolments.{has_number}
use Rattle.exam_publish.specs.Changed.{has_row}
use Rattle.exam_publish.proofs.comparison.push_students.Given as goal

abbrev pub invariant-rows : goal.invariant-rows
invariant-rows l = (s : ℕ) → has_number l.found.items s
    ≡ (has_number l.initial.found.items s || has_row (take l.row-index l.rows) s)

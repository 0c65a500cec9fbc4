use Rattle.std.proofs.Common.{◌≡◌, ℕ, ◌<◌, length, take, sum_by, count_by}
use Rattle.std.specs.Prelude.{slice_index}
use Rattle.exam_model.specs.Links.{is_link}
use Rattle.exam_model.proofs.conflicts.count_all.Given as goal

-- each exam's count of the students so far
abbrev pub invariant-loop-student : goal.invariant-loop-student
invariant-loop-student l =
    (e : ℕ) → e < length l.fn.counts → slice_index l.counts e
    ≡ sum_by (λ s. count_by (is_link s e) l.links.list.items) (take l.student-index l.students)

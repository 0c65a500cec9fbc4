use Rattle.std.proofs.Common.{◌≡◌, ◌+◌, ℕ, length, sum_by, take}
use Rattle.exam_score.specs.Rows.{row_at}
use Rattle.exam_score.specs.Tallies.{tally_sum}
use Rattle.exam_score.specs.TallyLinks.{AreCrowded, AreFiled, Grows}
use Rattle.exam_score.specs.declared.rows.Row.{Row}
use Rattle.exam_score.proofs.tallies.count_students.Given as goal

-- the students before this one are counted
abbrev pub invariant-loop-student : goal.invariant-loop-student
invariant-loop-student l = record {
  counted : (f : Row → ℕ) → sum_by (tally_sum f) l.tallies.items
      ≡ sum_by (tally_sum f) l.fn.tallies.items
      + sum_by (λ s. f (row_at l.period s)) (take l.student-index l.students);
  filed : AreFiled l.tallies.items l.last.items l.buckets;
  crowded : AreCrowded l.crowd.sizes.items l.crowd.steps l.buckets (length l.tallies.items);
  grown : Grows l.fn.tallies.items l.tallies.items l.period l.student-index;
}

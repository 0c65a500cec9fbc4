use Rattle.std.proofs.Common.{◌≤◌, ◌<◌, ℕ, sum_by, take, length, get_or}
use Rattle.exam_model.specs.Enrolments.{size_of}
use Rattle.exam_score.specs.Tallies.{AreCounted}
use Rattle.exam_score.specs.TallyLinks.{AreCrowded, AreFiled}
use Rattle.exam_score.specs.declared.sittings.PlacedExam.{PlacedExam}
use Rattle.exam_score.specs.declared.tallies.Tally.{Tally}
use Rattle.exam_score.proofs.tallies.file_all.Given as goal

-- the sittings before this one are counted, and no period is later than those to come
abbrev pub invariant-loop-sitting : goal.invariant-loop-sitting
invariant-loop-sitting l = record {
  counted : AreCounted l.enrolments (take l.sitting-index l.sittings) l.tallies.items;
  filed : AreFiled l.tallies.items l.last.items l.buckets;
  crowded : AreCrowded l.crowd.sizes.items l.crowd.steps l.buckets (length l.tallies.items);
  few : length l.tallies.items ≤ sum_by (λ x. size_of l.enrolments x.exam)
      (take l.sitting-index l.sittings);
  earlier : (k j : ℕ) (d : Tally) (e : PlacedExam) → k < length l.tallies.items → l.sitting-index ≤ j
      → j < length l.sittings
      → (get_or l.tallies.items k d).period ≤ (get_or l.sittings j e).period;
}

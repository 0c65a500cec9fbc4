use Rattle.std.proofs.Common.{◌≡◌, ◌≤◌, ◌+◌, length}
use Rattle.exam_score.specs.Stays.{further_durations}
use Rattle.exam_score.proofs.mixed.count_further.Given as goal

-- the counted part and the rest add up to the whole
abbrev pub invariant-loop-stay : goal.invariant-loop-stay
invariant-loop-stay l = record {
  whole : l.count + further_durations l.rest ≡ further_durations l.stays;
  bounded : l.count + length l.rest ≤ length l.stays;
}

abbrev pub decreases-loop-stay : goal.decreases-loop-stay
decreases-loop-stay l = length l.rest

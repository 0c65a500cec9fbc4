use Rattle.std.proofs.Common.{length, take}
use Rattle.std.specs.Prelude.{slice_get}
use Rattle.exam_score.specs.Track.{period_penalty}
use Rattle.exam_publish.specs.Shares.{is_in_period}
use Rattle.exam_publish.specs.Tallies.{AreTallied}
use Rattle.exam_publish.proofs.place_shares.period_shares.Given as goal

abbrev pub invariant-exams : goal.invariant-exams
invariant-exams l =
    AreTallied (λ p. period_penalty (slice_get l.instance.periods p)) is_in_period
    (length l.instance.periods) (take l.exam l.timetable) l.shares.items

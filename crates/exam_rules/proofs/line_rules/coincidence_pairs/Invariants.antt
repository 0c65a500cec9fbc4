use Rattle.std.proofs.Common.{[], ◌&&◌, not, nat_lt}
use Rattle.exam_rules.specs.Lines.{is_coincidence}
use Rattle.exam_rules.specs.Places.{share_student, in_two_periods}
use Rattle.exam_rules.proofs.FindingLemmas.{AreFound}
use Rattle.exam_rules.proofs.line_rules.coincidence_pairs.Given as goal

abbrev pub invariant-lines : goal.invariant-lines
invariant-lines l =
    AreFound is_coincidence
    (λ e f. nat_lt e f
    && (not (share_student l.enrolments e f) && in_two_periods l.timetable e f))
    [] l.line-items l.line-index l.found.items

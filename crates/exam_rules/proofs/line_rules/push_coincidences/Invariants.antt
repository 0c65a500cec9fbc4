use Rattle.std.proofs.Common.{◌&&◌, not, nat_lt}
use Rattle.exam_rules.specs.Lines.{is_coincidence}
use Rattle.exam_rules.specs.Places.{share_student, in_two_periods}
use Rattle.exam_rules.specs.Breaches.{is_one_of}
use Rattle.exam_rules.proofs.FindingLemmas.{AreFound}
use Rattle.exam_rules.proofs.line_rules.push_coincidences.Given as goal

abbrev pub invariant-lines : goal.invariant-lines
invariant-lines l =
    AreFound is_coincidence
    (λ e f. is_one_of l.exam e f && (nat_lt e f && (not (share_student l.site.enrolments.now e f)
    && in_two_periods l.site.timetable.now e f)))
    l.fn.found.items l.line-items l.line-index l.found.items

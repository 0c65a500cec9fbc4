use Rattle.std.proofs.Common.{◌&&◌, nat_lt}
use Rattle.exam_rules.specs.Lines.{is_exclusion}
use Rattle.exam_rules.specs.Places.{in_one_period}
use Rattle.exam_rules.specs.Breaches.{is_one_of}
use Rattle.exam_rules.proofs.FindingLemmas.{AreFound}
use Rattle.exam_rules.proofs.line_rules.push_exclusions.Given as goal

abbrev pub invariant-lines : goal.invariant-lines
invariant-lines l =
    AreFound is_exclusion
    (λ e f. is_one_of l.exam e f && (nat_lt e f && in_one_period l.site.timetable.now e f))
    l.fn.found.items l.line-items l.line-index l.found.items

use Rattle.std.proofs.Common.{◌&&◌, ◌==◌, not}
use Rattle.exam_rules.specs.Lines.{is_after}
use Rattle.exam_rules.specs.Places.{is_not_after}
use Rattle.exam_rules.specs.Breaches.{is_one_of}
use Rattle.exam_rules.proofs.FindingLemmas.{AreFound}
use Rattle.exam_rules.proofs.line_rules.push_afters.Given as goal

abbrev pub invariant-lines : goal.invariant-lines
invariant-lines l =
    AreFound is_after
    (λ e f. is_one_of l.exam e f && (not (e == f) && is_not_after l.site.timetable.now e f))
    l.fn.found.items l.line-items l.line-index l.found.items

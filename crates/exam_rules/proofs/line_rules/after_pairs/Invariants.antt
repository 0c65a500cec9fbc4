use Rattle.std.proofs.Common.{[], ◌&&◌, ◌==◌, not}
use Rattle.exam_rules.specs.Lines.{is_after}
use Rattle.exam_rules.specs.Places.{is_not_after}
use Rattle.exam_rules.proofs.FindingLemmas.{AreFound}
use Rattle.exam_rules.proofs.line_rules.after_pairs.Given as goal

abbrev pub invariant-lines : goal.invariant-lines
invariant-lines l =
    AreFound is_after (λ e f. not (e == f) && is_not_after l.timetable e f) [] l.line-items
    l.line-index l.found.items

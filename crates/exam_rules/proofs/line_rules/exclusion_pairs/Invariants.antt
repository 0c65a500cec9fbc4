use Rattle.std.proofs.Common.{[], ◌&&◌, nat_lt}
use Rattle.exam_rules.specs.Lines.{is_exclusion}
use Rattle.exam_rules.specs.Places.{in_one_period}
use Rattle.exam_rules.proofs.FindingLemmas.{AreFound}
use Rattle.exam_rules.proofs.line_rules.exclusion_pairs.Given as goal

abbrev pub invariant-lines : goal.invariant-lines
invariant-lines l =
    AreFound is_exclusion (λ e f. nat_lt e f && in_one_period l.timetable e f) [] l.line-items
    l.line-index l.found.items

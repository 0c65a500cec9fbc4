use Rattle.std.proofs.Common.{ℕ, ◌==◌, ◌&&◌, not}
use Rattle.exam_rules.specs.Places.{in_one_place}
use Rattle.exam_rules.proofs.FindingLemmas.{AreFound}
use Rattle.exam_rules.proofs.room_rules.add_intruders.Given as goal

abbrev pub invariant-others : goal.invariant-others
invariant-others l =
    AreFound {X = ℕ} (λ e f k. k == f)
    (λ e f. (l.exam == e) && (not (e == f) && in_one_place l.timetable e f))
    l.fn.found.items l.group l.other-index l.found.items

use Rattle.std.proofs.Common.{sym, ◌∙◌, ap}
use Rattle.exam_score.specs.Track.{track}
use Rattle.office_records.proofs.SlotLemmas.{same_timetable}
use Rattle.office_records.proofs.drafts.draft_of.Goals as goal

-- the slots are those of one timetable
pub returns-else-are_parts-clause-none : goal.returns-else-are_parts-clause-none
returns-else-are_parts-clause-none c = λ _ T are scored.
    let I = c.args.instance.now in
    let one = same_timetable I c.args.row.now.no c.args.slots.now T c.in_ok-timetable.timetable are
    c.in_ok-timetable.ensures.is in
    let stored = c.are_parts.ensures.1
    (scored ∙ ap (track I c.args.enrolments.now) one ∙ sym c.in_ok-parts.ensures) in
    absurd (cc (stored, c.if-are_parts.false))

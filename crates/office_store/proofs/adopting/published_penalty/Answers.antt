use Rattle.std.proofs.Common.{◌∙◌, Some, ap, length, subst, sym}
use Rattle.exam_publish.specs.Rows.{ArePublishedRows, enrolled_in}
use Rattle.exam_score.specs.Track.{track}
use Rattle.office_records.specs.FoundPublications.{AreFound, HasPlacesAndSeats, publication, publication_from}
use Rattle.office_store.specs.Memory.{priced_as}
use Rattle.office_store.proofs.adopting.published_penalty.Goals as goal

pub shares-requires : goal.shares-requires
shares-requires c =
    let I = c.args.instance.now in
    let T = c.in-Some.timetable in
    let found : HasPlacesAndSeats I (publication T c.in-Some.rows.items)
    = subst (λ p. AreFound I (publication_from p)) c.in-Some.is c.requires.found in
    subst (λ l. ArePublishedRows I l T) (sym c.deref.ensures.value) found.rows

pub returns-clause-priced : goal.returns-clause-priced
returns-clause-priced c =
    let I = c.args.instance.now in
    let T = c.in-Some.timetable in
    ap Some (c.in-Some-parts.ensures.penalty _ c.in_ok-shares.ensures.add_up)
    ∙ ap (λ l. Some (track I (enrolled_in (length I.exams) l) T)) c.deref.ensures.value
    ∙ ap (λ p. priced_as I (publication_from p)) (sym c.in-Some.is)

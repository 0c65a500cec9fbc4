use Rattle.std.proofs.Common.{◌∙◌}
use Rattle.office_records.proofs.FoundLemmas.{only_one, no_seats, nothing_has_them, refused_rows}
use Rattle.office_records.proofs.ResultLemmas.{passed_on}
use Rattle.office_records.proofs.publication.publication_of.Goals as goal

pub returns-then-not-mark-clause-none : goal.returns-then-not-mark-clause-none
returns-then-not-mark-clause-none c =
    nothing_has_them c.args.instance.now c.args.mark c.args.places.now c.args.seats.now
    c.if-not-mark.true c.no_publication.result c.no_publication.ensures.bad

pub returns-in_err-rows-clause-none : goal.returns-in_err-rows-clause-none
returns-in_err-rows-clause-none c =
    passed_on c.from_residual-in_err-rows.result c.in_err-rows.field-0.0 _
    c.from_residual-in_err-rows.ensures.1
    (λ bad. no_seats c.args.instance.now c.args.mark c.args.places.now c.args.seats.now
    c.if-not-mark.false (c.in_err-rows.ensures.none bad))

pub returns-then-sound-clause-only : goal.returns-then-sound-clause-only
returns-then-sound-clause-only c =
    only_one c.args.instance.now c.args.mark c.args.places.now c.args.seats.now c.if-not-mark.false
    c.in_ok-timetable.timetable c.in_ok-rows.rows.items c.in_ok-timetable.ensures.is
    c.in_ok-rows.ensures.only

pub returns-else-sound-clause-none : goal.returns-else-sound-clause-none
returns-else-sound-clause-none c =
    λ _. refused_rows c.args.instance.now c.args.mark c.args.places.now c.args.seats.now
    c.if-not-mark.false c.in_ok-timetable.timetable c.deref.result.now
    c.in_ok-timetable.ensures.is
    (λ own order same. c.deref.ensures.value ∙ c.in_ok-rows.ensures.only own order same)
    c.in_ok-sound.sound c.in_ok-sound.ensures c.if-sound.false

use Rattle.std.proofs.Common.{sym, subst, ◌∙◌}
use Rattle.office_records.specs.Found.{AreSlots}
use Rattle.office_records.proofs.PlacedRowLemmas.{places_from_slots, slots_from_places}
use Rattle.office_records.proofs.ResultLemmas.{passed_on}
use Rattle.office_records.proofs.publication.timetable_at.Goals as goal

pub returns-in_err-timetable-clause-none : goal.returns-in_err-timetable-clause-none
returns-in_err-timetable-clause-none c =
    let I = c.args.instance.now in
    let places = c.args.places.now in
    passed_on c.from_residual-in_err-timetable.result c.in_err-timetable.field-0.0 _
    c.from_residual-in_err-timetable.ensures.1
    (λ bad T are. c.in_err-timetable.ensures.none bad T
    (subst (λ slots. AreSlots I 0 slots T) (sym (c.deref.ensures.value ∙ c.in_ok-slots.ensures))
    (slots_from_places I places T are)))

pub returns-clause-is : goal.returns-clause-is
returns-clause-is c =
    let I = c.args.instance.now in
    let T = c.in_ok-timetable.timetable in
    places_from_slots I c.args.places.now T
    (subst (λ slots. AreSlots I 0 slots T) (c.deref.ensures.value ∙ c.in_ok-slots.ensures)
    c.in_ok-timetable.ensures.is)

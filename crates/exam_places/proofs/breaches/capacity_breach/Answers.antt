use Rattle.std.specs.Prelude.{slice_get}
use Rattle.std.proofs.Common.{◌≡◌, ◌∙◌, ◌+◌, cond, length, Bool, true, false, Some, None, sym, ap, arith}
use Rattle.exam_terms.specs.declared.place.Place.{Place}
use Rattle.exam_model.specs.Enrolments.{size_of}
use Rattle.exam_rules.specs.HardRules.{is_too_small}
use Rattle.exam_rules.specs.declared.breach.BreachRule.TheVariants.{Capacity}
use Rattle.exam_places.specs.Breaches.{own_breach}
use Rattle.exam_places.specs.Groups.{capacity_rules}
use Rattle.exam_places.specs.PlaceTable.{place_entry}
use Rattle.exam_places.specs.Unplaced.{IsUnplaced, first_breach}
use Rattle.exam_places.specs.declared.place_table.PlaceEntry.{PlaceEntry}
use Rattle.exam_places.specs.declared.unplaced_exam.UnplacedExam.{UnplacedExam}
use Rattle.exam_places.proofs.RuleFirsts.{capacity_is}
use Rattle.exam_places.proofs.SizeLemmas.{entry_students}
use Rattle.exam_places.proofs.breaches.capacity_breach.Goals as goal

-- the breach, if the room is too small or not
breach_is : (u : UnplacedExam) (at : Place) (entry : PlaceEntry) (b : Bool) → IsUnplaced u
    → entry ≡ place_entry u (length u.instance.now.exams) at
    → is_too_small (slice_get u.instance.now.rooms at.room)
    (entry.students + size_of u.enrolments.now u.exam) ≡ b
    → first_breach u at capacity_rules ≡ cond b (Some (own_breach Capacity u.exam)) None
breach_is u at entry b is here small =
    capacity_is u.instance.now u.enrolments.now u.timetable.now u.exam at is.unplaced
    is.fits.timetable is.fits.enrolments is.exists
    ∙ ap (λ c. cond c (Some (own_breach Capacity u.exam)) None)
    (ap (λ (x : PlaceEntry). is_too_small (slice_get u.instance.now.rooms at.room)
    (x.students + size_of u.enrolments.now u.exam)) (sym here) ∙ small)

pub is_too_small-requires-clause-few : goal.is_too_small-requires-clause-few
is_too_small-requires-clause-few c =
    let u = c.args.unplaced.now in
    let same = ap (λ (x : PlaceEntry). x.students) c.requires.entry in
    let few = entry_students u c.lemma_order.ensures (length u.instance.now.exams) c.args.at.now
    (omega (arith, c.requires.unplaced.fits.enrolments)) in
    omega (arith, same, few, c.lemma_order.ensures.exams, c.requires.unplaced.fits.enrolments)

pub returns-then-is_too_small : goal.returns-then-is_too_small
returns-then-is_too_small c =
    ap Some c.own_breach.ensures
    ∙ sym (breach_is c.args.unplaced.now c.args.at.now c.args.entry.now true c.requires.unplaced
    c.requires.entry (sym c.is_too_small.ensures ∙ c.if-is_too_small.true))

pub returns-else-is_too_small : goal.returns-else-is_too_small
returns-else-is_too_small c =
    sym (breach_is c.args.unplaced.now c.args.at.now c.args.entry.now false c.requires.unplaced
    c.requires.entry (sym c.is_too_small.ensures ∙ c.if-is_too_small.false))

use Rattle.std.proofs.Common.{ℕ, [], length, ◌&&◌, ◌==◌, not, ◌∙◌, ap, sym, arith}
use Rattle.std.specs.List.{list_any}
use Rattle.std.specs.Prelude.{slice_index_or}
use Rattle.std.proofs.Math.Bool.{or-false}
use Rattle.exam_rules.specs.declared.breach.BreachRule.TheVariants.{RoomExclusive}
use Rattle.exam_rules.specs.Breach.{is_pair}
use Rattle.exam_model.specs.Enrolments.{has_number}
use Rattle.exam_rules.specs.Places.{in_one_place}
use Rattle.exam_rules.specs.HardRules.{breaks}
use Rattle.exam_rules.proofs.FindingLemmas.{found_none, found_more, found_all}
use Rattle.exam_rules.proofs.GroupLemmas.{group_exists, one_place_group, no_place}
use Rattle.exam_rules.proofs.PlaceLemmas.{its_place_exists, breaking_exist}
use Rattle.exam_rules.proofs.room_rules.exclusive_pairs.Goals as goal

pub exams-init : goal.exams-init
exams-init c = rw c.new-found.ensures.items found_none

pub exams-preserved-in_default : goal.exams-preserved-in_default
exams-preserved-in_default c =
    let unplaced = sym c.get.ensures ∙ c.in_default.is in
    found_more c.exams.invariant c.exams-test.true c.exam-item.is
    (λ e f. sym (or-false (list_any (is_pair e f) c.exams.found.items)))
    (no_place c.args.timetable.now c.exam-item.result unplaced)

pub add_intruders-requires-clause-others_exist : goal.add_intruders-requires-clause-others_exist
add_intruders-requires-clause-others_exist c =
    let there = sym c.get.ensures ∙ c.in-Some.is in
    let grouped = c.in_ok-groups.ensures
    (omega (
      arith,
      c.exams-test.true,
      ap length c.deref.ensures.value,
      ap length c.deref-exam-items.ensures.value,
    )) in
    let within = its_place_exists c.args.instance.now _ _ _ c.requires.fits.places there in
    rw (c.group_of.ensures, c.deref-in-exams.ensures.value)
    (group_exists grouped c.in-Some.place.period within.0)

pub exams-preserved : goal.exams-preserved
exams-preserved c =
    let k : ℕ = c.exam-item.result in
    let there = sym c.get.ensures ∙ c.in-Some.is in
    let grouped = c.in_ok-groups.ensures
    (omega (
      arith,
      c.exams-test.true,
      ap length c.deref.ensures.value,
      ap length c.deref-exam-items.ensures.value,
    )) in
    let within = its_place_exists c.args.instance.now _ _ _ c.requires.fits.places there in
    found_more c.exams.invariant c.exams-test.true c.exam-item.is c.in_ok-add_intruders.ensures
    (λ e f. ap (λ g. has_number g f
    && ((k == e) && (not (e == f) && in_one_place c.args.timetable.now e f)))
    (c.group_of.ensures
    ∙ ap (λ gs. slice_index_or gs c.in-Some.place.period []) c.deref-in-exams.ensures.value)
    ∙ one_place_group grouped (omega arith) k c.in-Some.place there within.0 e f)

pub returns : goal.returns
returns c E =
    c.in_order.ensures (breaks c.args.instance.now E c.args.timetable.now RoomExclusive) _
    (record {
      members = λ e f.
          found_all c.exams.invariant c.exams-test.false e f
          ∙ ap (λ b. b && (not (e == f) && in_one_place c.args.timetable.now e f))
          (ap (λ xs. has_number xs e) c.deref-exam-items.ensures.value
          ∙ c.in_ok-exclusive.ensures.members e);
      exist = breaking_exist c.args.instance.now E c.args.timetable.now RoomExclusive _
          c.requires.fits.exams;
    })

use Rattle.std.proofs.lemmas.List.{get_or_read}
use Rattle.std.proofs.Common.{ℕ, [], ◌&&◌, nat_lt, ◌∙◌, ap, arith, refl, subst, sym}
use Rattle.exam_lists.proofs.Booleans.{and_swap}
use Rattle.exam_rules.specs.declared.breach.BreachRule.TheVariants.{Clash}
use Rattle.exam_model.specs.Enrolments.{has_number}
use Rattle.exam_rules.specs.Groups.{AreGroups}
use Rattle.exam_rules.specs.Places.{share_student, in_one_period}
use Rattle.exam_rules.specs.HardRules.{breaks}
use Rattle.exam_rules.proofs.FindingLemmas.{found_none, found_more, found_all}
use Rattle.exam_rules.proofs.GroupLemmas.{group_exists, in_one_group}
use Rattle.exam_rules.proofs.PlaceLemmas.{breaking_exist}
use Rattle.exam_rules.proofs.period_rules.grouped_clashes.Goals as goal

pub groups-init : goal.groups-init
groups-init c = rw c.new-found.ensures.items found_none

pub add_group-requires : goal.add_group-requires
add_group-requires c =
    let i : ℕ = c.groups.group-index in
    let grouped = subst (AreGroups c.args.timetable.now _ _) (sym c.deref-group-items.ensures.value)
    c.in_ok-groups.ensures in
    let all = group_exists grouped i (omega (arith, grouped.count)) in
    record {
      exist = rw (c.as_slice.ensures ∙ get_or_read _ i _ c.groups-test.true c.group-item.is [])
          (λ k d lt. omega (arith, all k d lt));
    }

pub groups-preserved : goal.groups-preserved
groups-preserved c =
    found_more c.groups.invariant c.groups-test.true c.group-item.is c.in_ok-add_group.ensures
    (λ e f. ap (λ g. (has_number g e && has_number g f)
    && (nat_lt e f && share_student c.args.enrolments.now e f))
    c.as_slice.ensures)

pub returns : goal.returns
returns c =
    let I = c.args.instance.now in
    let E = c.args.enrolments.now in
    let T = c.args.timetable.now in
    let grouped = subst (AreGroups T _ _) (sym c.deref-group-items.ensures.value)
    c.in_ok-groups.ensures in
    c.in_order.ensures (breaks I E T Clash) _
    (record {
      members = λ e f.
          found_all c.groups.invariant c.groups-test.false e f
          ∙ ap (λ b. b && (nat_lt e f && share_student E e f))
          (in_one_group I grouped refl refl c.requires.fits.places e f)
          ∙ and_swap (in_one_period T e f) (nat_lt e f) (share_student E e f);
      exist = breaking_exist I E T Clash _ c.requires.fits.timetable;
    })

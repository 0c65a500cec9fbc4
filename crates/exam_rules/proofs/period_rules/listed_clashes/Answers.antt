use Rattle.std.specs.List.{list_any}
use Rattle.std.proofs.Common.{true, false, ◌&&◌, ◌==◌, ap, ◌∙◌}
use Rattle.exam_lists.proofs.Booleans.{and_turned}
use Rattle.exam_model.specs.Conflicts.{is_conflict}
use Rattle.exam_model.proofs.ConflictLemmas.{conflict_members}
use Rattle.exam_rules.specs.declared.breach.BreachRule.TheVariants.{Clash}
use Rattle.exam_rules.specs.Places.{in_one_period}
use Rattle.exam_rules.specs.HardRules.{breaks}
use Rattle.exam_rules.proofs.FindingLemmas.{found_none, found_more, found_all, of_both}
use Rattle.exam_rules.proofs.PlaceLemmas.{breaking_exist}
use Rattle.exam_rules.proofs.period_rules.listed_clashes.Goals as goal

pub conflicts-init : goal.conflicts-init
conflicts-init c = rw c.new-found.ensures.items found_none

pub conflicts-preserved : goal.conflicts-preserved
conflicts-preserved c =
    let T = c.args.timetable.now in
    let x = c.conflict-item.result in
    found_more c.conflicts.invariant c.conflicts-test.true c.conflict-item.is
    c.in_ok-push_some.ensures
    (λ e f. c.pair_if.ensures e f
    ∙ ap (λ b. ((x.exam == e) && (x.other == f)) && b) c.is_listed_clash-clash.ensures
    ∙ of_both x.exam x.other (in_one_period T) e f)

pub returns : goal.returns
returns c I E fits listed =
    let T = c.args.timetable.now in
    c.in_order.ensures (breaks I E T Clash) _
    (record {
      members = λ e f.
          found_all c.conflicts.invariant c.conflicts-test.false e f
          ∙ ap (λ cs. list_any (is_conflict e f) cs && in_one_period T e f) listed
          ∙ ap (λ b. b && in_one_period T e f) (conflict_members E e f)
          ∙ and_turned _ _ (in_one_period T e f);
      exist = breaking_exist I E T Clash _ fits.timetable;
    })

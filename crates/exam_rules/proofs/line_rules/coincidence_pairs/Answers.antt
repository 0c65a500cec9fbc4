use Rattle.exam_rules.specs.declared.breach.BreachRule.TheVariants.{Coincidence}
use Rattle.exam_rules.specs.HardRules.{breaks}
use Rattle.exam_rules.proofs.FindingLemmas.{found_more, found_all}
use Rattle.exam_rules.proofs.PlaceLemmas.{breaking_exist}
use Rattle.exam_rules.proofs.line_rules.coincidence_pairs.Goals as goal

pub lines-preserved : goal.lines-preserved
lines-preserved c =
    found_more c.lines.invariant c.lines-test.true c.line-item.is
    c.in_ok-push_some.ensures c.broken_coincidence.ensures

pub returns : goal.returns
returns c =
    c.in_order.ensures
    (breaks c.args.instance.now c.args.enrolments.now c.args.timetable.now Coincidence) _
    (record {
      members = rw c.period_rules-line-items.ensures.rules at (found_all c.lines.invariant
          c.lines-test.false);
      exist = breaking_exist c.args.instance.now c.args.enrolments.now c.args.timetable.now
          Coincidence _ c.requires.timetable;
    })

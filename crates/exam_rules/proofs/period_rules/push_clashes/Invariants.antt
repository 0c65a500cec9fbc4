use Rattle.exam_rules.specs.declared.breach.BreachRule.TheVariants.{Clash}
use Rattle.exam_rules.specs.HardRules.{breaks}
use Rattle.exam_rules.proofs.NamingLemmas.{AreFoundWith}
use Rattle.exam_rules.proofs.period_rules.push_clashes.Given as goal

abbrev pub invariant-others : goal.invariant-others
invariant-others l =
    AreFoundWith l.exam
    (breaks l.site.instance.now l.site.enrolments.now l.site.timetable.now Clash)
    l.fn.found.items l.other l.found.items

use Rattle.exam_rules.specs.declared.breach.BreachRule.TheVariants.{RoomExclusive}
use Rattle.exam_rules.specs.HardRules.{breaks}
use Rattle.exam_rules.proofs.NamingLemmas.{AreFoundWith}
use Rattle.exam_rules.proofs.room_rules.push_exclusives.Given as goal

abbrev pub invariant-others : goal.invariant-others
invariant-others l =
    AreFoundWith l.exam
    (breaks l.site.instance.now l.site.enrolments.now l.site.timetable.now RoomExclusive)
    l.fn.found.items l.other l.found.items

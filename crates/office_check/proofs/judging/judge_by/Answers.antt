use Rattle.office_check.proofs.CheckFacts.{verdict_on}
use Rattle.office_check.proofs.judging.judge_by.Goals as goal

pub returns-clause-judged : goal.returns-clause-judged
returns-clause-judged g c =
    verdict_on _ _ _ _ _ c.in_ok-timetable.ensures.reading c.in_ok-verdict.ensures

pub returns-clause-some_judged : goal.returns-clause-some_judged
returns-clause-some_judged g c = (
  c.in_ok-timetable.ensures.spelled.0,
  record {
    placing = c.in_ok-timetable.timetable;
    spells = c.in_ok-timetable.ensures.spelled.1;
    judged = c.in_ok-verdict.ensures;
  },
)

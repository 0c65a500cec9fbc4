use Rattle.std.proofs.Common.{◌∙◌, ap₂}
use Rattle.office_program.specs.CheckAll.{status_of_all}
use Rattle.office_program.proofs.judging.check_all.Goals as goal

-- the outcomes, by the session that was read
pub returns-in-Ok-judge_each-clause-judged : goal.returns-in-Ok-judge_each-clause-judged
returns-in-Ok-judge_each-clause-judged g c =
    let all = c.in-Ok-judge_each.ensures.ok in
    record {
      prints = record {
        outcomes = all.outcomes;
        judged = record {
          text = c.in-Ok.ensures.spelled.0;
          of = c.in-Ok.ensures.spelled.1;
          session = c.in-Ok.judge.0;
          enrolled = c.in-Ok.judge.1;
          read = c.in-Ok.ensures.spelled.2;
          left = g.I.Read.remaining c.judge_at.new.stdin;
          unread = c.in-Ok.ensures.unread;
          judged = all.judged;
        };
        printed = all.printed;
        ended = c.status_of.ensures ∙ ap₂ status_of_all all.fault all.breach;
      };
      told = all.told;
    }

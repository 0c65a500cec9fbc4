use Rattle.std.proofs.Common.{Ok, refl, inr}
use Rattle.sqlite.specs.Held.{state}
use Rattle.sqlite.proofs.StateLemmas.{survives_weaker}
use Rattle.office_messages.specs.Reply.{plain_reply}
use Rattle.office_requests.specs.Requests.{plain_caller_command}
use Rattle.office_desk.specs.Answers.{plain_answer}
use Rattle.office_model.specs.Answers.{unavailable}
use Rattle.office_http.proofs.AnswerLemmas.{nothing_survives, replied}
use Rattle.office_http.specs.Replying.{MayCommitReply}
use Rattle.office_http.proofs.DoneLemmas.{not_unavailable, unless_refused}
use Rattle.office_http.proofs.replying.command_reply.Goals as goal

-- no room for the reply: nothing is done
pub returns-in_default : goal.returns-in_default
returns-in_default g c = record {
  clean = λ h. h;
  step = λ clean office now.
      (office, (unavailable, inr (refl, refl), c.unavailable.ensures), now);
  all_committed = λ clean done.
      not_unavailable (plain_reply c.unavailable.result) c.unavailable.ensures done;
  unchanged = λ _ clean opened. (opened, refl);
  survives = nothing_survives (state g.S.Store c.args.desk.now)
      (MayCommitReply (Ok (plain_caller_command c.args.asked.now)) (state g.S.Store c.args.desk.now)
      (plain_reply c.unavailable.result));
}

pub returns : goal.returns
returns g c = record {
  clean = c.run-answer.ensures.clean;
  step = λ clean office now.
      let ran = c.run-answer.ensures.step clean office now in (
        ran.0,
        replied (plain_caller_command c.args.asked.now) office ran.0
            (plain_answer c.run-answer.result)
            (plain_reply c.answer_reply.result) ran.1 c.answer_reply.ensures,
        ran.2,
      );
  all_committed = λ clean done.
      unless_refused (plain_answer c.run-answer.result) (plain_reply c.answer_reply.result)
      c.answer_reply.ensures (c.run-answer.ensures.all_committed clean) done;
  unchanged = c.run-answer.ensures.unchanged;
  survives = survives_weaker (state g.S.Store c.args.desk.now)
      (state g.S.Store c.run-answer.new.self) _ _
      (λ _ found may. (plain_answer c.run-answer.result, c.answer_reply.ensures, may))
      c.run-answer.ensures.survives;
}

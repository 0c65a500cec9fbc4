use Rattle.std.proofs.Common.{option_copied, refl, subst, sym}
use Rattle.sqlite.specs.Held.{state}
use Rattle.office_messages.specs.Heads.{plain_request}
use Rattle.office_messages.specs.Reply.{PlainReply, plain_reply}
use Rattle.office_requests.specs.Requests.{command_or_refusal}
use Rattle.office_requests.specs.Answering.{ReturnsCallerCommand}
use Rattle.office_http.specs.Replying.{AnsweredTo, MayCommitReply, RepliesTo}
use Rattle.office_http.proofs.AnswerLemmas.{nothing_survives, refused}
use Rattle.office_http.proofs.CandidateLemmas.{replies_view}
use Rattle.office_http.proofs.DoneLemmas.{not_unread}
use Rattle.office_http.proofs.replying.reply.Goals as goal

-- a request that is refused unread changes nothing
pub returns-in-Err-clause-answered : goal.returns-in-Err-clause-answered
returns-in-Err-clause-answered g c =
    let request = c.args.request.now in
    let said = command_or_refusal request.method.now request.target.now (option_copied request.caller)
    request.body.now in
    record {
      clean = λ h. h;
      all_committed = λ clean done.
          not_unread c.in-Err.refusal (plain_reply c.reply.result) c.reply.ensures done;
      unchanged = λ _ clean opened. (opened, refl);
      survives = nothing_survives (state g.S.Store c.args.desk.now)
          (MayCommitReply said (state g.S.Store c.args.desk.now) (plain_reply c.reply.result));
      step = λ clean office now. (
        office,
        subst (λ (r : PlainReply). RepliesTo said office r office) (sym c.reply.ensures)
            (refused said c.in-Err.refusal office
            (subst (λ r. ReturnsCallerCommand said r) c.in-Err.is c.read_request.ensures.command)),
        now,
      );
    }

pub returns-in-Err-clause-view : goal.returns-in-Err-clause-view
returns-in-Err-clause-view g c = λ clean office now.
    let request = c.args.request.now in
    let said = command_or_refusal request.method.now request.target.now (option_copied request.caller)
    request.body.now in
    replies_view office office (plain_request request) (plain_reply c.reply.result)
    (subst (λ (r : PlainReply). RepliesTo said office r office) (sym c.reply.ensures)
    (refused said c.in-Err.refusal office
    (subst (λ r. ReturnsCallerCommand said r) c.in-Err.is c.read_request.ensures.command)))

pub returns-in-Ok-clause-answered : goal.returns-in-Ok-clause-answered
returns-in-Ok-clause-answered g c =
    let request = c.args.request.now in
    let said = command_or_refusal request.method.now request.target.now (option_copied request.caller)
    request.body.now in
    subst (λ asked. AnsweredTo g.S.Store c.args.desk.now asked
    (plain_reply c.command_reply.result) c.command_reply.new.desk)
    (sym (subst (λ r. ReturnsCallerCommand said r) c.in-Ok.is c.read_request.ensures.command))
    c.command_reply.ensures

pub returns-in-Ok-clause-view : goal.returns-in-Ok-clause-view
returns-in-Ok-clause-view g c = λ clean office now.
    let step = c.command_reply.ensures.step clean office now in
    let request = c.args.request.now in
    replies_view office step.0 (plain_request request) (plain_reply c.command_reply.result)
    (subst (λ asked. RepliesTo asked office (plain_reply c.command_reply.result) step.0)
    (sym (subst (λ r. ReturnsCallerCommand (command_or_refusal request.method.now request.target.now
    (option_copied request.caller) request.body.now) r) c.in-Ok.is c.read_request.ensures.command))
    step.1)

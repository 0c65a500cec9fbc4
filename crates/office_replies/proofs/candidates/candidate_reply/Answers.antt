use Rattle.std.proofs.Common.{◌∙◌, ap}
use Rattle.std.proofs.lemmas.Result.{IfOk-weaker}
use Rattle.serde_json.proofs.FreeTexts.{text_of_value}
use Rattle.office_messages.specs.Reply.{json_reply}
use Rattle.office_messages.specs.declared.statuses.Status.TheVariants.{Done}
use Rattle.office_replies.specs.CandidateViews.{candidate_data}
use Rattle.office_replies.proofs.FloatLemmas.{candidate_no_float}
use Rattle.office_replies.proofs.candidates.candidate_reply.Goals as goal

pub returns : goal.returns
returns c =
    let shown = c.args.shown.now in
    let body = candidate_data shown.student shown.exams shown.personal in
    let whole = candidate_no_float shown.student shown.exams shown.personal in
    IfOk-weaker c.written_reply.result _ _
    (λ reply h. h.4 ∙ ap (json_reply Done) (text_of_value body h.0 h.1 h.2 h.3 whole))
    c.written_reply.ensures

use Rattle.std.proofs.Common.{◌∙◌, ap, refl}
use Rattle.std.proofs.lemmas.Result.{IfOk-weaker}
use Rattle.serde_json.proofs.FreeTexts.{text_of_value}
use Rattle.office_messages.specs.Reply.{json_reply}
use Rattle.office_messages.specs.declared.statuses.Status.TheVariants.{Done}
use Rattle.office_replies.specs.CandidateViews.{cost_data}
use Rattle.office_replies.proofs.candidates.cost_reply.Goals as goal

pub returns : goal.returns
returns c =
    let body = cost_data c.args.personal in
    IfOk-weaker c.written_reply.result _ _
    (λ reply h. h.4 ∙ ap (json_reply Done) (text_of_value body h.0 h.1 h.2 h.3 refl))
    c.written_reply.ensures

use Rattle.std.proofs.Common.{◌∙◌, sym, true≢false}
use Rattle.sqlite.proofs.Callers.{memory_is_clean}
use Rattle.office_messages.specs.Heads.{plain_request}
use Rattle.office_messages.specs.Reply.{plain_reply}
use Rattle.office_http.proofs.TwoOfficesLemmas.{text}
use Rattle.office_http.proofs.two_offices.available_reply.Goals as goal

pub returns : goal.returns
returns c = λ o now.
    text o (plain_request c.args.request.now) (plain_reply c.reply-reply.result)
    (c.reply-reply.ensures.view (memory_is_clean c.reply-reply.new.desk) o now)
    (λ is. true≢false (sym (c.is_unavailable.ensures.1 is) ∙ c.if-is_unavailable.false))

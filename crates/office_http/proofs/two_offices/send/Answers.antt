use Rattle.std.proofs.Common.{subst}
use Rattle.sqlite.proofs.Callers.{memory_is_clean}
use Rattle.sqlite.specs.Held.{state}
use Rattle.sqlite.specs.Steps.{over_memory}
use Rattle.office_messages.specs.Reply.{plain_reply}
use Rattle.office_store.specs.Running.{Represents}
use Rattle.office_http.proofs.TwoOfficesLemmas.{sent}
use Rattle.office_http.proofs.two_offices.send.Goals as goal

pub returns : goal.returns
returns c = λ o now.
    let went = c.reply-reply.ensures.answered.step (memory_is_clean c.reply-reply.new.desk) o now in
    subst (λ n. Represents (state over_memory c.reply-reply.new.desk) n)
    (sent o went.0 c.args.request.now (plain_reply c.reply-reply.result) c.is_unavailable.result
    went.1 c.is_unavailable.ensures.0 c.is_unavailable.ensures.1) went.2

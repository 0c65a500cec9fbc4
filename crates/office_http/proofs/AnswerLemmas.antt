-- From an answer of the desk to a reply.
use Rattle.std.proofs.Common.{◌≡◌, Result, Ok, Err, refl, sym, subst, inl, inr}
use Rattle.sqlite.specs.State.{State, Survives}
use Rattle.sqlite.proofs.StateLemmas.{survives_weaker}
use Rattle.sqlite_trees.specs.Tree.{Trees}
use Rattle.office_messages.specs.Reply.{PlainReply}
use Rattle.office_requests.specs.Requests.{PlainCallerCommand}
use Rattle.office_requests.specs.Answering.{ReturnsCallerCommand, refusal_reply}
use Rattle.office_requests.specs.declared.requests.Refusal.{Refusal}
use Rattle.office_requests.specs.declared.requests.Refusal.TheVariants as refusal
use Rattle.office_model.specs.Answers as answers
use Rattle.office_model.specs.Answers.{PlainAnswer}
use Rattle.office_model.specs.Office.{OfficeState}
use Rattle.office_model.specs.Step.{Steps}
use Rattle.office_model.proofs.AnswerLemmas.{shown_stays}
use Rattle.office_store.proofs.LeavingLemmas.{survives_same}
use Rattle.office_http.specs.Replying.{IsReplyOf, RepliesTo}

-- if nothing is done, nothing is committed
pub nothing_survives : (a : State) (P : Trees → Type 0) → Survives a a P
nothing_survives a P =
    survives_weaker a a (λ _. ⊥) P (λ _ db none. absurd none) (survives_same a)

-- a step whose answer the reply expresses, or a step whose reply is `unavailable`
pub replied : (asked : PlainCallerCommand) (old new : OfficeState) (answer : PlainAnswer)
    (reply : PlainReply)
    → Steps old asked.caller asked.command answer new → IsReplyOf answer reply
    → RepliesTo (Ok asked) old reply new
replied asked old new answer reply step (inl is) = (answer, step, is)
replied asked old new answer reply step (inr k) = (
  answers.unavailable,
  inr (shown_stays old new asked.caller asked.command answer step k.0, refl),
  k.1,
)

same : (said : Result PlainCallerCommand Refusal) (why : Refusal) (office : OfficeState)
    → said ≡ Err why → RepliesTo said office (refusal_reply why) office
same said why office is =
    subst (λ (s : Result PlainCallerCommand Refusal). RepliesTo s office (refusal_reply why) office)
    (sym is)
    (refl, refl)

-- a request that is refused unread changes nothing
pub refused : (said : Result PlainCallerCommand Refusal) (why : Refusal) (office : OfficeState)
    → ReturnsCallerCommand said (Err why) → RepliesTo said office (refusal_reply why) office
refused said refusal.Caller office h = same said refusal.Caller office h
refused said refusal.Candidate office h = same said refusal.Candidate office h
refused said refusal.Path office h = same said refusal.Path office h
refused said (refusal.Method page) office h = same said (refusal.Method page) office h
refused (Ok asked) refusal.NoMemory office h = (answers.unavailable, inr (refl, refl), refl)
refused (Err why) refusal.NoMemory office h = absurd h

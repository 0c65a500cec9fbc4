-- A refusal is never the reply to a request that was done.
use Rattle.std.proofs.Common.{◌≡◌, ◌⊎◌, inl, inr, subst}
use Rattle.exam_draft.specs.declared.fault.EditFault.{EditFault}
use Rattle.exam_draft.specs.declared.fault.EditFault.TheVariants as edit
use Rattle.exam_publish.specs.declared.fault.PublishFault.{PublishFault}
use Rattle.exam_publish.specs.declared.fault.PublishFault.TheVariants as publish
use Rattle.office_messages.specs.Reply.{PlainReply}
use Rattle.office_messages.specs.FixedReplies.{unavailable}
use Rattle.office_requests.specs.Answering.{refusal_reply}
use Rattle.office_requests.specs.declared.requests.Refusal.{Refusal}
use Rattle.office_requests.specs.declared.requests.Refusal.TheVariants as unread
use Rattle.office_requests.specs.declared.texts.FixedError.TheVariants as error
use Rattle.office_model.specs.Answers as answer
use Rattle.office_model.specs.Answers.{PlainAnswer}
use Rattle.office_model.specs.declared.fault.Refusal.TheVariants as refusal
use Rattle.office_model.specs.declared.fault.StoreFault.{StoreFault}
use Rattle.office_model.specs.declared.fault.StoreFault.TheVariants as fault
use Rattle.office_replies.specs.Refusals.{edit_reply, fault_reply_of, publish_reply}
use Rattle.office_replies.specs.Replies.{reply_to}
use Rattle.office_desk.specs.Answers.{IsRefusal}
use Rattle.office_http.specs.Replying.{IsDone, IsReplyOf}

of_edit : (f : EditFault) → IsDone (edit_reply f).status → ⊥
of_edit edit.NoSuch done = done
of_edit edit.AlreadyPlaced done = done
of_edit edit.NotPlaced done = done
of_edit edit.SameExam done = done
of_edit (edit.Broken b) done = done
of_edit edit.NoMemory done = done

of_publication : (f : PublishFault) → IsDone (publish_reply f).status → ⊥
of_publication (publish.Unplaced e) done = done
of_publication (publish.Broken b) done = done
of_publication publish.NoMemory done = done

of_fault : (f : StoreFault) → IsDone (fault_reply_of f).status → ⊥
of_fault fault.Loaded done = done
of_fault fault.NotLoaded done = done
of_fault fault.NoDraft done = done
of_fault fault.DraftTaken done = done
of_fault fault.BatchDiffers done = done
of_fault fault.TooMany done = done
of_fault (fault.Refused (refusal.Edit f)) done = of_edit f done
of_fault (fault.Refused (refusal.Publish f)) done = of_publication f done
of_fault (fault.Refused (refusal.File f)) done = done
of_fault fault.Store done = done
of_fault fault.BadSchema done = done

-- the same for the reply to an answer that is a refusal
of_answer : (a : PlainAnswer) → IsRefusal a → IsDone (reply_to a).status → ⊥
of_answer (answer.my_exams s exams penalty) refuses done = refuses
of_answer (answer.my_one exam) refuses done = refuses
of_answer (answer.my_cost penalty) refuses done = refuses
of_answer answer.not_mine refuses done = done
of_answer (answer.now_loaded l) refuses done = refuses
of_answer (answer.text text) refuses done = refuses
of_answer (answer.now_owned e dept) refuses done = refuses
of_answer (answer.now_drafted d penalty) refuses done = refuses
of_answer (answer.now_edited d penalty) refuses done = refuses
of_answer (answer.now_dropped d) refuses done = refuses
of_answer (answer.shown_draft d T penalty) refuses done = refuses
of_answer (answer.now_published d counts) refuses done = refuses
of_answer answer.unpublished refuses done = done
of_answer (answer.now_enrolled batch counts) refuses done = refuses
of_answer (answer.denied rule) refuses done = done
of_answer answer.bad_body refuses done = done
of_answer answer.long_body refuses done = done
of_answer (answer.refused why) refuses done = of_fault why done
of_answer answer.unavailable refuses done = done

-- the same for the reply to a request that is refused unread
pub of_unread : (r : Refusal) → IsDone (refusal_reply r).status → ⊥
of_unread unread.Caller done = done
of_unread unread.Candidate done = done
of_unread unread.Path done = done
of_unread (unread.Method page) done = done
of_unread unread.NoMemory done = done

status_with : (reply said : PlainReply) → reply ≡ said → IsDone reply.status → IsDone said.status
status_with reply said is done = subst (λ (r : PlainReply). IsDone r.status) is done

-- a fact that holds unless the answer is a refusal holds if the reply says that the request was
-- done
pub unless_refused : {A : Type 0} → (a : PlainAnswer) (reply : PlainReply) → IsReplyOf a reply
    → IsRefusal a ⊎ A → IsDone reply.status → A
unless_refused a reply (inl is) (inl refuses) done =
    absurd (of_answer a refuses (status_with reply (reply_to a) is done))
unless_refused a reply (inr k) (inl refuses) done = absurd (status_with reply unavailable k.1 done)
unless_refused a reply of_it (inr holds) done = holds

pub not_unavailable : {A : Type 0} → (reply : PlainReply) → reply ≡ unavailable
    → IsDone reply.status → A
not_unavailable reply is done = absurd (status_with reply unavailable is done)

pub not_unread : {A : Type 0} → (r : Refusal) (reply : PlainReply) → reply ≡ refusal_reply r
    → IsDone reply.status → A
not_unread r reply is done = absurd (of_unread r (status_with reply (refusal_reply r) is done))

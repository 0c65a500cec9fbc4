-- The reply to each answer of the office: a status and a body.
use Rattle.std.specs.Prelude.{ℕ, List, None}
use Rattle.office_messages.specs.Reply.{PlainReply, json_reply}
use Rattle.office_messages.specs.FixedReplies.{fault_reply, unavailable}
use Rattle.office_messages.specs.declared.framing.Fault.TheVariants.{TooLong}
use Rattle.office_messages.specs.declared.replies.Content.TheVariants.{Text}
use Rattle.office_messages.specs.declared.statuses.Status.TheVariants.{Done, Created}
use Rattle.office_policy.specs.Commands.{PlainCommand}
use Rattle.office_requests.specs.Texts.{error_reply}
use Rattle.office_requests.specs.declared.texts.FixedError.TheVariants as error
use Rattle.office_model.specs.Answers as answer
use Rattle.office_model.specs.Answers.{PlainAnswer}
use Rattle.office_model.specs.Candidates.{answer_to}
use Rattle.office_model.specs.Views.{View}
use Rattle.office_replies.specs.CandidateViews.{candidate_text, cost_text, exam_text}
use Rattle.office_replies.specs.Views.{draft_text}
use Rattle.office_replies.specs.Refusals.{fault_reply_of}
use Rattle.office_replies.specs.ChangeTexts.{loaded_text, owner_text, draft_penalty_text, dropped_text, published_text, enrolled_text}

-- a text as it is
abbrev pub text_reply : List ℕ → PlainReply
text_reply text = record { status = Done; allow = None; content = Text; body = text }

-- the reply to each answer
abbrev pub reply_to : PlainAnswer → PlainReply
reply_to (answer.my_exams s exams penalty) = json_reply Done (candidate_text s exams penalty)
reply_to (answer.my_one exam) = json_reply Done (exam_text exam)
reply_to (answer.my_cost penalty) = json_reply Done (cost_text penalty)
reply_to answer.not_mine = error_reply error.Exam
reply_to (answer.now_loaded l) = json_reply Created (loaded_text l)
reply_to (answer.text text) = text_reply text
reply_to (answer.now_owned e dept) = json_reply Done (owner_text e dept)
reply_to (answer.now_drafted d penalty) = json_reply Created (draft_penalty_text d penalty)
reply_to (answer.now_edited d penalty) = json_reply Done (draft_penalty_text d penalty)
reply_to (answer.now_dropped d) = json_reply Done (dropped_text d)
reply_to (answer.shown_draft d T penalty) = json_reply Done (draft_text d T penalty)
reply_to (answer.now_published d counts) = json_reply Done (published_text d counts)
reply_to answer.unpublished = error_reply error.Publication
reply_to (answer.now_enrolled batch counts) = json_reply Done (enrolled_text batch counts)
reply_to (answer.denied rule) = error_reply (error.Denied rule)
reply_to answer.bad_body = error_reply error.Body
reply_to answer.long_body = fault_reply TooLong
reply_to (answer.refused why) = fault_reply_of why
reply_to answer.unavailable = unavailable

-- the reply to a candidate, by their view only
abbrev pub view_text : ℕ → PlainCommand → View → PlainReply
view_text s command view = reply_to (answer_to s command view)

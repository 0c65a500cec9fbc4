-- The answers that the program holds, without the place of their texts in memory.
use Rattle.office_model.specs.Answers.{PlainAnswer, my_exams, my_one, my_cost, not_mine}
use Rattle.office_model.specs.Answers.{now_loaded, text, now_owned, now_drafted, now_edited}
use Rattle.office_model.specs.Answers.{now_dropped, shown_draft, now_published, unpublished}
use Rattle.office_model.specs.Answers.{now_enrolled, denied, bad_body, long_body, refused, unavailable}
use Rattle.office_model.specs.declared.fault.StoreFault.{StoreFault}
use Rattle.office_model.specs.declared.fault.StoreFault.TheVariants.{Store, BadSchema}
use Rattle.office_desk.specs.declared.answer.Answer.{Answer}
use Rattle.office_desk.specs.declared.answer.Answer.TheVariants as answer

-- the answer that the program holds
abbrev pub plain_answer : Answer → PlainAnswer
plain_answer (answer.Me view) = my_exams view.student view.exams view.personal
plain_answer (answer.MyExam row) = my_one row
plain_answer (answer.MyPenalty penalty) = my_cost penalty
plain_answer answer.NotMine = not_mine
plain_answer (answer.Loaded counts) = now_loaded counts
plain_answer (answer.Text bytes) = text bytes.items
plain_answer (answer.Owner exam dept) = now_owned exam dept
plain_answer (answer.NewDraft d penalty) = now_drafted d penalty
plain_answer (answer.Edited d penalty) = now_edited d penalty
plain_answer (answer.Dropped d) = now_dropped d
plain_answer (answer.Draft d timetable penalty) = shown_draft d timetable penalty
plain_answer (answer.Published d counts) = now_published d counts
plain_answer (answer.Enrolled n counts) = now_enrolled n counts
plain_answer answer.Unpublished = unpublished
plain_answer (answer.Denied denial) = denied denial
plain_answer answer.BadBody = bad_body
plain_answer answer.LongBody = long_body
plain_answer (answer.Refused fault) = refused fault
plain_answer answer.Unavailable = unavailable

-- the answer to a refusal; it says nothing about failures of the database
abbrev pub refusal : StoreFault → PlainAnswer
refusal Store = unavailable
refusal BadSchema = unavailable
refusal fault = refused fault

-- the policy, the body or the state refuses the command, or the office is unavailable
abbrev pub IsRefusal : PlainAnswer → Type 0
IsRefusal (denied denial) = Unit {0}
IsRefusal bad_body = Unit {0}
IsRefusal long_body = Unit {0}
IsRefusal (refused fault) = Unit {0}
IsRefusal unavailable = Unit {0}
IsRefusal answer = ⊥

-- The answer to a candidate, from their view only.
use Rattle.std.specs.Prelude.{ℕ, ◌==◌, Option, Some, None}
use Rattle.std.specs.List.{find}
use Rattle.office_policy.specs.Commands.{PlainCommand, me, my_exam, my_penalty}
use Rattle.office_policy.specs.declared.policy.Denial.TheVariants.{P1}
use Rattle.office_model.specs.Answers.{PlainAnswer, my_exams, my_one, my_cost, not_mine, denied}
use Rattle.office_model.specs.Shown.{shown_exams, shown_penalty}
use Rattle.office_model.specs.Views.{View}
use Rattle.office_model.specs.declared.views.ViewRow.{ViewRow}

-- a candidate's question: all of their exams, one of them, or the cost of them
pub data CandidateQuestion : Type 0 where
  whole cost : CandidateQuestion
  one : ℕ → CandidateQuestion

-- the candidate's exam, or that it isn't theirs
abbrev pub exam_answer : Option ViewRow → PlainAnswer
exam_answer None = not_mine
exam_answer (Some shown) = my_one shown

-- the answer to a candidate; it doesn't show whether an exam that isn't theirs exists
abbrev pub candidate_answer : ℕ → CandidateQuestion → View → PlainAnswer
candidate_answer s whole view = my_exams s (shown_exams view) (shown_penalty view)
candidate_answer s (one n) view = exam_answer (find (λ shown. shown.exam == n) (shown_exams view))
candidate_answer s cost view = my_cost (shown_penalty view)

-- the answer to any command of a candidate: to their own three, and the denial of all others
abbrev pub answer_to : ℕ → PlainCommand → View → PlainAnswer
answer_to s me view = candidate_answer s whole view
answer_to s (my_exam n) view = candidate_answer s (one n) view
answer_to s my_penalty view = candidate_answer s cost view
answer_to s _ view = denied P1

-- The office's answers, without the places of their texts in memory.
use Rattle.std.specs.Prelude.{ℕ, Bool, true, false, List}
use Rattle.exam_model.specs.Timetable.{Placing}
use Rattle.exam_score.specs.Penalty.{PersonalPenalty}
use Rattle.office_policy.specs.declared.policy.Denial.{Denial}
use Rattle.office_model.specs.declared.counts.Counts.{Counts}
use Rattle.office_model.specs.declared.counts.Loaded.{Loaded}
use Rattle.office_model.specs.declared.counts.Published.{Published}
use Rattle.office_model.specs.declared.fault.StoreFault.{StoreFault}
use Rattle.office_model.specs.declared.views.ViewRow.{ViewRow}

-- the answer to a command
pub data PlainAnswer : Type 0 where
  -- a candidate, their exams and the cost of these; one exam; only the cost; an exam that isn't
  -- theirs
  my_exams : ℕ → List ViewRow → PersonalPenalty → PlainAnswer
  my_one : ViewRow → PlainAnswer
  my_cost : PersonalPenalty → PlainAnswer
  not_mine : PlainAnswer
  -- how much was loaded
  now_loaded : Loaded → PlainAnswer
  -- an instance, a solution or a report
  text : List ℕ → PlainAnswer
  -- an exam and the department that owns it now
  now_owned : ℕ → ℕ → PlainAnswer
  -- a new or edited draft with its penalty; a deleted draft
  now_drafted : ℕ → ℕ → PlainAnswer
  now_edited : ℕ → ℕ → PlainAnswer
  now_dropped : ℕ → PlainAnswer
  -- a draft, its timetable and its penalty
  shown_draft : ℕ → Placing → ℕ → PlainAnswer
  -- a draft that is published now; nothing is published
  now_published : ℕ → Published → PlainAnswer
  unpublished : PlainAnswer
  -- a batch and what its lines did
  now_enrolled : ℕ → Counts → PlainAnswer
  -- the policy denies the command
  denied : Denial → PlainAnswer
  -- the body is not of the required form, or too long
  bad_body : PlainAnswer
  long_body : PlainAnswer
  -- the state of the office refuses the command
  refused : StoreFault → PlainAnswer
  -- nothing was done, and the answer shows nothing
  unavailable : PlainAnswer

-- whether the answer shows stored data
abbrev pub has_stored_data : PlainAnswer → Bool
has_stored_data (my_exams s exams penalty) = true
has_stored_data (my_one exam) = true
has_stored_data (my_cost penalty) = true
has_stored_data (text bytes) = true
has_stored_data (shown_draft d T penalty) = true
has_stored_data _ = false

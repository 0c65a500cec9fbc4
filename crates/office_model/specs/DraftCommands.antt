-- The effect of each command about a draft on the office, its refusals in their order.
use Rattle.std.specs.Prelude.{ℕ, Bool, ◌&&◌, nat_le, List, [], ◌∷◌, length, Some, None, is_none, Result, Ok}
use Rattle.exam_model.specs.Instance.{Session}
use Rattle.exam_terms.specs.Refusing.{◌>>=◌, unless, else_err}
use Rattle.exam_terms.specs.declared.limits.TheConstants.{MAX_DRAFTS}
use Rattle.exam_model.specs.Timetable.{Placing, empty_timetable}
use Rattle.exam_score.specs.Penalty.{Penalty, total_of}
use Rattle.exam_score.specs.Track.{track}
use Rattle.exam_draft.specs.declared.edit.Edit.{Edit}
use Rattle.exam_draft.specs.Edits.{edit_result}
use Rattle.office_files.specs.SolutionText.{solution_in}
use Rattle.office_model.specs.Office.{OfficeState, Records, set_at}
use Rattle.office_model.specs.declared.fault.Refusal.TheVariants as refusal
use Rattle.office_model.specs.declared.fault.StoreFault.{StoreFault}
use Rattle.office_model.specs.declared.fault.StoreFault.TheVariants.{NoDraft, DraftTaken, Refused}
use Rattle.office_model.specs.Commands.{CommandResult, renamed_fault, records_or_refusal}

-- the penalty of a timetable with the live enrolments
abbrev pub live_penalty : Records → Placing → ℕ
live_penalty r T = total_of (track r.session r.enrolments T)

-- a timetable with no exam placed, or the one that a text describes
abbrev pub first_timetable : List ℕ → Session → Result Placing StoreFault
first_timetable [] I = Ok (empty_timetable (length I.exams))
first_timetable (b ∷ bytes) I =
    renamed_fault (λ f. Refused (refusal.File f)) (solution_in I (b ∷ bytes))

-- drafts are numbered from 1 to 8
abbrev pub is_draft_number : ℕ → Bool
is_draft_number d = nat_le 1 d && nat_le d MAX_DRAFTS

-- a draft is made if its number is free, of a solution or of nothing
abbrev pub draft_made : ℕ → List ℕ → OfficeState → CommandResult ℕ
draft_made d bytes office = do
  r ← records_or_refusal office
  _ ← unless (is_draft_number d) NoDraft
  _ ← unless (is_none (r.draft d)) DraftTaken
  T ← first_timetable bytes r.session
  Ok (live_penalty r T, Some (record r { draft = set_at d (Some T) r.draft }))

-- a draft is dropped
abbrev pub draft_dropped : ℕ → OfficeState → CommandResult (Unit {0})
draft_dropped d office = do
  r ← records_or_refusal office
  _ ← else_err NoDraft (r.draft d)
  Ok (tt, Some (record r { draft = set_at d None r.draft }))

-- a draft, with its penalty
abbrev pub draft_shown : ℕ → OfficeState → CommandResult (Placing × Penalty)
draft_shown d office = do
  r ← records_or_refusal office
  T ← else_err NoDraft (r.draft d)
  Ok ((T, track r.session r.enrolments T), office)

-- a draft is edited: its penalty afterwards
abbrev pub draft_edited : ℕ → Edit → OfficeState → CommandResult ℕ
draft_edited d change office = do
  r ← records_or_refusal office
  T ← else_err NoDraft (r.draft d)
  new ← renamed_fault (λ f. Refused (refusal.Edit f)) (edit_result r.session r.enrolments T change)
  Ok (live_penalty r new, Some (record r { draft = set_at d (Some new) r.draft }))

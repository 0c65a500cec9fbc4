-- The results of commands, and the office after those about owners and the session, their refusals
-- in order. A refusal changes nothing: it has no new office.
use Rattle.std.specs.Prelude.{ℕ, Some, None, Result, Ok, Err}
use Rattle.exam_model.specs.Enrolments.{Enrolled}
use Rattle.exam_model.specs.Instance.{Session}
use Rattle.exam_terms.specs.Refusing.{◌>>=◌, unless, else_err}
use Rattle.exam_draft.specs.Edits.{exam_exists}
use Rattle.exam_draft.specs.declared.fault.EditFault.TheVariants.{NoSuch}
use Rattle.office_model.specs.Office.{OfficeState, Records, set_at}
use Rattle.office_model.specs.declared.fault.Refusal.TheVariants as refusal
use Rattle.office_model.specs.declared.fault.StoreFault.{StoreFault}
use Rattle.office_model.specs.declared.fault.StoreFault.TheVariants.{NotLoaded, Refused}

-- the result of a command, with the office after it
abbrev pub CommandResult : Type 0 → Type 0
CommandResult A = Result (A × OfficeState) StoreFault

-- a fault by another name
abbrev pub renamed_fault : {A F G : Type 0} → (F → G) → Result A F → Result A G
renamed_fault name (Ok x) = Ok x
renamed_fault name (Err e) = Err (name e)

-- the records, once there is a session
abbrev pub records_or_refusal : OfficeState → Result Records StoreFault
records_or_refusal office = else_err NotLoaded office

-- ---- owners

-- a department becomes the owner of an exam; 0 removes the owner
abbrev pub set_owner_result : ℕ → ℕ → OfficeState → CommandResult (Unit {0})
set_owner_result exam dept office = do
  r ← records_or_refusal office
  _ ← unless (exam_exists r.session exam) (Refused (refusal.Edit NoSuch))
  Ok (tt, Some (record r { owner_of = set_at exam dept r.owner_of }))

-- the department that owns an exam; 0 if none does
abbrev pub owner_in : ℕ → OfficeState → ℕ
owner_in exam None = 0
owner_in exam (Some r) = r.owner_of exam

-- ---- commands that show something

-- the session and its enrolments
abbrev pub session_shown : OfficeState → CommandResult (Session × Enrolled)
session_shown office = do
  r ← records_or_refusal office
  Ok ((r.session, r.enrolments), office)

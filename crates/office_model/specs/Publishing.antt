-- The effect of a publication on the office: the draft's timetable, and a seat for each enrolment.
use Rattle.std.specs.Prelude.{ℕ, List, [], length, Option, Some, None, Result, Ok, Err}
use Rattle.exam_terms.specs.Refusing.{◌>>=◌, else_err}
use Rattle.exam_model.specs.Pairs.{pairs_of}
use Rattle.exam_model.specs.Timetable.{Placing}
use Rattle.exam_publish.specs.Changed.{changed_students}
use Rattle.exam_publish.specs.Permit.{publish_refusal}
use Rattle.exam_publish.specs.Seats.{seat_rows}
use Rattle.exam_publish.specs.declared.seat_row.SeatRow.{SeatRow}
use Rattle.office_model.specs.Commands.{CommandResult, renamed_fault, records_or_refusal}
use Rattle.office_model.specs.DraftCommands.{live_penalty}
use Rattle.office_model.specs.Office.{OfficeState, Records, Publication}
use Rattle.office_model.specs.declared.counts.Published as counts
use Rattle.office_model.specs.declared.fault.Refusal.TheVariants as refusal
use Rattle.office_model.specs.declared.fault.StoreFault.TheVariants.{NoDraft, Refused}

-- the seat rows of a publication; none if there is none
abbrev pub publication_rows : Option Publication → List SeatRow
publication_rows None = []
publication_rows (Some p) = p.rows

-- refused if there is a reason
abbrev pub unless_refused : {F : Type 0} → Option F → Result (Unit {0}) F
unless_refused None = Ok tt
unless_refused (Some fault) = Err fault

-- a timetable with seats for the live enrolments: an old seat is kept if its exam has the same
-- place
abbrev pub published_as : Records → Placing → Publication
published_as r T = record {
  timetable = T;
  rows = seat_rows (pairs_of r.enrolments) T (publication_rows r.published);
}

-- how many candidates' rows differ from those before, and the penalty
abbrev pub publication_counts : Records → Publication → counts.Published
publication_counts r p = record {
  changed = length (changed_students (publication_rows r.published) p.rows);
  penalty = live_penalty r p.timetable;
}

-- a draft is published, unless an exam has no place in it or it breaks a rule
abbrev pub draft_published : ℕ → OfficeState → CommandResult counts.Published
draft_published d office = do
  r ← records_or_refusal office
  T ← else_err NoDraft (r.draft d)
  _ ← renamed_fault (λ f. Refused (refusal.Publish f))
      (unless_refused (publish_refusal r.session r.enrolments T))
  let new = published_as r T
  Ok (publication_counts r new, Some (record r { published = Some new }))

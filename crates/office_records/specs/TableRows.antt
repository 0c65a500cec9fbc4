-- The rows of an office, table by table.
use Rattle.std.specs.Prelude.{ℕ, ◌+◌, ◌==◌, Bool, true, false, if◌then◌else◌, List, [], ◌∷◌, filter, length, Option, Some, None}
use Rattle.exam_model.specs.Enrolments.{no_pairs}
use Rattle.exam_model.specs.Instance.{Session}
use Rattle.exam_model.specs.Pairs.{Pair}
use Rattle.exam_model.specs.Timetable.{Placing}
use Rattle.exam_terms.specs.declared.place.Place.{Place}
use Rattle.office_files.specs.CanonicalText.{canonical_instance}
use Rattle.office_tables.specs.Tables.Metadata.{Meta}
use Rattle.office_tables.specs.Tables.Batches.{Batch}
use Rattle.office_tables.specs.declared.tables.owner.OwnerRow.{OwnerRow}
use Rattle.office_tables.specs.declared.tables.enrol.EnrolRow.{EnrolRow}
use Rattle.office_tables.specs.declared.tables.draft.DraftRow.{DraftRow}
use Rattle.office_tables.specs.declared.tables.slot.SlotRow.{SlotRow}
use Rattle.office_model.specs.Office.{KeptBatch}

-- the canonical text of a session, which names no student
abbrev pub session_text : Session → List ℕ
session_text I = canonical_instance I (no_pairs (length I.exams))

-- the session without its enrolments, and whether something is published
abbrev pub meta_row : Bool → Session → Meta
meta_row published I = record { published = published; instance = session_text I }

-- the row of an enrolment
abbrev pub enrol_row : Pair → EnrolRow
enrol_row p = record { student = p.student; exam = p.exam }

-- the row of an exam's place in a draft
abbrev pub slot_row : ℕ → ℕ → Place → SlotRow
slot_row d e at = record { draft = d; exam = e; period = at.period; room = at.room }

-- the rows of the placed exams, from a number on
abbrev pub slots_from : ℕ → ℕ → Placing → List SlotRow
slots_from d e [] = []
slots_from d e (None ∷ T) = slots_from d (e + 1) T
slots_from d e (Some at ∷ T) = slot_row d e at ∷ slots_from d (e + 1) T

-- the rows of all places of a draft, by exam; none if there is no such draft
abbrev pub slot_rows : ℕ → Option Placing → List SlotRow
slot_rows d None = []
slot_rows d (Some T) = slots_from d 0 T

-- a batch as the tables have it
abbrev pub stored_batch : KeptBatch → Batch
stored_batch b = record {
  no = b.no;
  bytes = b.bytes;
  added = b.counts.added;
  dropped = b.counts.dropped;
  unchanged = b.counts.unchanged;
}

-- a number once, or not at all
abbrev pub number_if : Bool → ℕ → List ℕ
number_if true n = n ∷ []
number_if false n = []

-- a department, or none
abbrev pub some_dept : ℕ → List ℕ
some_dept dept = if dept == 0 then [] else dept ∷ []

-- ---- those of one exam or draft

-- the rows of an exam's owner
abbrev pub owners_at : ℕ → List OwnerRow → List OwnerRow
owners_at e rows = filter (λ r. r.exam == e) rows

-- the rows of a draft
abbrev pub drafts_at : ℕ → List DraftRow → List DraftRow
drafts_at d rows = filter (λ r. r.no == d) rows

-- the rows of a draft's places
abbrev pub slots_at : ℕ → List SlotRow → List SlotRow
slots_at d rows = filter (λ r. r.draft == d) rows

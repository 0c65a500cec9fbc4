-- When a row may follow those before it.
use Rattle.std.specs.Prelude.{◌≡◌, ◌<◌, ◌≤◌, ℕ, false, List, length, Some, None, slice_index, slice_set}
use Rattle.exam_terms.specs.declared.limits.TheConstants.{MAX_DEPARTMENT, MAX_PAIRS, MAX_STUDENT}
use Rattle.exam_model.specs.Enrolments.{Enrolled, has, pair_count}
use Rattle.exam_model.specs.Instance.{Session}
use Rattle.exam_model.specs.Timetable.{Placing, place_of}
use Rattle.office_tables.specs.declared.tables.enrol.EnrolRow.{EnrolRow}
use Rattle.office_tables.specs.declared.tables.owner.OwnerRow.{OwnerRow}
use Rattle.office_tables.specs.declared.tables.slot.SlotRow.{SlotRow}

-- an owner within the limits, of an exam that exists and has no owner among these departments
pub record IsFirstOwner (departments : List ℕ) (row : OwnerRow) : Type 0 where
  pub exam : row.exam < length departments
  pub unowned : slice_index departments row.exam ≡ 0
  pub department : (1 ≤ row.dept) × (row.dept ≤ MAX_DEPARTMENT)

-- a pair within the limits, of an exam that exists, which is not in these enrolments and fits into
-- them
pub record IsNewPair (E : Enrolled) (row : EnrolRow) : Type 0 where
  pub exam : row.exam < length E
  pub student : row.student ≤ MAX_STUDENT
  pub lacking : has E row.student row.exam ≡ false
  pub room : pair_count E < MAX_PAIRS

-- the exam and the place of a row exist, and the exam is not placed yet
pub record IsFree (I : Session) (row : SlotRow) (T : Placing) : Type 0 where
  pub exam : row.exam < length I.exams
  pub period : row.period < length I.periods
  pub room : row.room < length I.rooms
  pub nowhere : place_of T row.exam ≡ None

-- the exam has that place in the new timetable
pub record IsSlotPlaced (I : Session) (row : SlotRow) (old new : Placing) : Type 0 where
  pub free : IsFree I row old
  pub set : new ≡ slice_set old row.exam (Some (record { period = row.period; room = row.room }))

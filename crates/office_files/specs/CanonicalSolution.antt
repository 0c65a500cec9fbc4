-- The canonical text of a timetable: the one text of it that is written.
use Rattle.std.specs.Prelude.{◌≡◌, ℕ, ◌+◌, List, [], length, All, Option, Some, None, decimal}
use Rattle.std.specs.List.{flat_map}
use Rattle.exam_model.specs.Fits.{PlaceExists}
use Rattle.exam_model.specs.Instance.{Session, IsInstance}
use Rattle.exam_model.specs.Timetable.{Placing, IsFirstUnplaced}
use Rattle.exam_terms.specs.declared.place.Place.{Place}
use Rattle.office_files.specs.CanonicalLines.{line_of, field_before}
use Rattle.office_files.specs.declared.fault.FaultKind.TheVariants.{Incomplete}
use Rattle.office_files.specs.declared.fault.FileFault.{FileFault}

-- period, room
abbrev pub place_text : Place → List ℕ
place_text p = field_before (decimal p.period) (decimal p.room)

-- the line of an exam, if it is placed
abbrev pub slot_text : Option Place → List ℕ
slot_text None = []
slot_text (Some p) = line_of (place_text p)

-- the canonical text of a timetable: the places of the exams, in their order
abbrev pub canonical_solution : Placing → List ℕ
canonical_solution T = flat_map slot_text T

-- a timetable of an instance: it has as many exams, and their places exist
pub record SuitsTimetable (I : Session) (T : Placing) : Type 0 where
  pub instance : IsInstance I
  pub exams : length T ≡ length I.exams
  pub places : All (PlaceExists I) T

-- the fault of a timetable in which an exam is not placed: the line of the smallest one, from 1
pub record IsIncomplete (T : Placing) (fault : FileFault) : Type 0 where
  pub exam : ℕ
  pub first : IsFirstUnplaced T exam
  pub line : fault.line ≡ exam + 1
  pub what : fault.what ≡ Incomplete

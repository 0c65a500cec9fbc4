-- The timetable that a solution file describes, and its reading (ITC 2007, output format).
use Rattle.std.specs.Prelude.{◌≡◌, ℕ, ◌+◌, ◌≤◌, ◌==◌, nat_le, List, [], map, length, Some, Result, Ok}
use Rattle.exam_terms.specs.declared.limits.TheConstants.{TEXT_BYTES}
use Rattle.exam_terms.specs.Refusing.{◌>>=◌, unless}
use Rattle.exam_model.specs.Instance.{Session}
use Rattle.exam_model.specs.Timetable.{Placing}
use Rattle.exam_terms.specs.declared.place.Place.{Place}
use Rattle.office_files.specs.ItemLines.{place_line}
use Rattle.office_files.specs.Lines.{lines_of, line_count}
use Rattle.office_files.specs.Reading.{at_line, items_of, Spell}
use Rattle.office_files.specs.declared.counts.Counts.{Counts}
use Rattle.office_files.specs.declared.fault.FaultKind.TheVariants.{TooLong, CountMismatch}
use Rattle.office_files.specs.declared.fault.FileFault.{FileFault}

-- the numbers of exams, periods and rooms of a session
abbrev pub counts_in : Session → Counts
counts_in I = record { exams = length I.exams; periods = length I.periods; rooms = length I.rooms }

-- a text within the limit lists a complete timetable: one line for each exam, in their order
pub record SolutionText (b : List ℕ) (I : Session) (T : Placing) : Type 0 where
  pub within : length b ≤ TEXT_BYTES
  pub places : List Place
  pub spelled : Spell (place_line (counts_in I)) (lines_of b) places
  pub complete : length places ≡ length I.exams
  pub timetable : T ≡ map Some places

-- the complete timetable that lines say, one place for each exam
abbrev pub timetable_in : Counts → List ℕ → Result Placing FileFault
timetable_in counts b = do
  places ← items_of (place_line counts) [] (lines_of b)
  _ ← at_line (line_count b + 1) (unless (length places == counts.exams) CountMismatch)
  Ok (map Some places)

-- the reading of a solution file: the timetable in the text, or its first fault
abbrev pub solution_in : Session → List ℕ → Result Placing FileFault
solution_in I b = do
  _ ← at_line 0 (unless (nat_le (length b) TEXT_BYTES) TooLong)
  timetable_in (counts_in I) b

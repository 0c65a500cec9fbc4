-- The output of `compare`: what differs between two solutions of a session.
use Rattle.std.specs.Prelude.{◌≡◌, ℕ, ◌++◌, ◌∷◌, [], List, None, Option, Some, codes, decimal, length}
use Rattle.std.specs.Io.KnownBytes.{Appends}
use Rattle.std.specs.List.{flat_map}
use Rattle.exam_terms.specs.declared.place.Place.{Place}
use Rattle.exam_model.specs.Enrolments.{Enrolled}
use Rattle.exam_model.specs.Instance.{Session}
use Rattle.exam_model.specs.Timetable.{Placing}
use Rattle.exam_rules.specs.declared.breach.Breach.{Breach}
use Rattle.exam_score.specs.Penalty.{Penalty, total_of}
use Rattle.exam_score.specs.Track.{track}
use Rattle.exam_changes.specs.Gained.{gained}
use Rattle.exam_changes.specs.Moves.{candidates_of, moves}
use Rattle.exam_changes.specs.declared.moved_exams.Move.{Move}
use Rattle.office_files.specs.FirstFault.{first_solution_fault}
use Rattle.office_files.specs.SolutionText.{SolutionText}
use Rattle.office_files.specs.declared.fault.FileFault.{FileFault}
use Rattle.office_files.specs.declared.inputs.InputFault.{InputFault}
use Rattle.office_files.specs.declared.inputs.InputFault.TheVariants as input
use Rattle.office_output.specs.Writing.{WritesFront}
use Rattle.office_reports.specs.Reports.{number_line, violation_text}
use Rattle.office_check.specs.Check.{AreRead, IsInput, IsRead}
use Rattle.office_check.specs.Refusing.{Refuses}
use Rattle.office_check.specs.declared.checking.CheckFault.TheVariants as check
use Rattle.office_check.specs.declared.comparing.CompareFault.{CompareFault}
use Rattle.office_check.specs.declared.comparing.CompareFault.TheVariants as fault

-- ---- the lines

-- the period and the room of a place; two dashes if there is none
abbrev pub place_words : Option Place → List ℕ
place_words None = codes "- -"
place_words (Some at) = decimal at.period ++ 32 ∷ decimal at.room

-- an exam that moved: its number, where it was, where it is
abbrev pub move_line : Move → List ℕ
move_line m =
    decimal m.exam ++ 32 ∷ place_words m.from ++ 32 ∷ place_words m.to ++ 10 ∷ []

-- how many exams moved, then a line for each
abbrev pub moves_text : List Move → List ℕ
moves_text ms = number_line (codes "moved") (length ms) ++ flat_map move_line ms

-- a line of a name and two numbers
abbrev pub numbers_line : List ℕ → ℕ → ℕ → List ℕ
numbers_line name n m = name ++ 32 ∷ decimal n ++ 32 ∷ decimal m ++ 10 ∷ []

-- each part of the penalty before and after, and the totals
abbrev pub parts_text : Penalty → Penalty → List ℕ
parts_text p q =
    numbers_line (codes "two in a row") p.row q.row
    ++ numbers_line (codes "two in a day") p.day q.day
    ++ numbers_line (codes "period spread") p.spread q.spread
    ++ numbers_line (codes "over night") p.night q.night
    ++ numbers_line (codes "mixed durations") p.mixed q.mixed
    ++ numbers_line (codes "front load") p.front q.front
    ++ numbers_line (codes "period penalty") p.period q.period
    ++ numbers_line (codes "room penalty") p.room q.room
    ++ numbers_line (codes "total") (total_of p) (total_of q)

-- the breaches gained, then those lost
abbrev pub breaches_text : List Breach → List Breach → List ℕ
breaches_text gains losses =
    codes "gained " ++ violation_text gains ++ codes "lost " ++ violation_text losses

-- all that differs between the timetables A and B
abbrev pub comparison_text : Session → Enrolled → Placing → Placing → List ℕ
comparison_text I E A B = moves_text (moves A B)
    ++ number_line (codes "candidates") (length (candidates_of E (moves A B)))
    ++ parts_text (track I E A) (track I E B)
    ++ breaches_text (gained I E A B) (gained I E B A)

-- ---- the output

-- the three texts have a reading: a session and two of its timetables
pub record AreThree (instance before after : List ℕ) : Type 0 where
  pub first : IsRead instance
  pub old : Placing
  pub new : Placing
  pub old_spells : SolutionText before first.session old
  pub new_spells : SolutionText after first.session new

-- the texts have a reading, and this says what differs
pub record IsComparison (instance before after text : List ℕ) : Type 0 where
  pub read : AreThree instance before after
  pub spells : text ≡ comparison_text read.first.session read.first.enrolled read.old read.new

-- the same of texts of the three inputs
pub record IsComparisonFrom (first second third : Option (List ℕ)) (text : List ℕ) : Type 0 where
  pub instance : List ℕ
  pub before : List ℕ
  pub after : List ℕ
  pub of_first : IsInput first instance
  pub of_second : IsInput second before
  pub of_third : IsInput third after
  pub compares : IsComparison instance before after text

-- the texts have a reading, and what differs is written
pub record Compares (instance before after : List ℕ) (old new : Option (List ℕ)) : Type 0 where
  pub read : AreThree instance before after
  pub written : Appends old new
      (comparison_text read.first.session read.first.enrolled read.old read.new)

-- the same of texts of the three inputs
pub record ComparesFrom (first second third old new : Option (List ℕ)) : Type 0 where
  pub instance : List ℕ
  pub before : List ℕ
  pub after : List ℕ
  pub of_first : IsInput first instance
  pub of_second : IsInput second before
  pub of_third : IsInput third after
  pub compares : Compares instance before after old new

-- whatever the texts were: some three have a reading, and what differs is written
pub record ComparesSome (old new : Option (List ℕ)) : Type 0 where
  pub instance : List ℕ
  pub before : List ℕ
  pub after : List ℕ
  pub compares : Compares instance before after old new

-- the texts have a reading, and a front of what differs is written
abbrev pub ComparesFront : List ℕ → List ℕ → List ℕ → Option (List ℕ) → Option (List ℕ) → Type 0
ComparesFront instance before after old new =
    (text : List ℕ) × IsComparison instance before after text × WritesFront old new text

-- ---- faults

-- the fault of the whole run for a fault of the second solution's input
abbrev pub of_after : InputFault → CompareFault
of_after input.Read = fault.ReadAfter
of_after (input.File f) = fault.After f
of_after input.NoMemory = fault.Check check.NoMemory

-- the session and the first solution have a reading, and for it the second one has this first fault
pub record IsMisreadAfter (instance before after : List ℕ) (f : FileFault) : Type 0 where
  pub read : AreRead instance before
  pub fault : first_solution_fault read.first.session after ≡ Some f

-- the stage of the work, and the first fault of the text at which it ended
abbrev pub RefusesComparison : List ℕ → List ℕ → List ℕ → CompareFault → Type 0
RefusesComparison instance before after (fault.Check f) = Refuses instance before f
RefusesComparison instance before after fault.ReadAfter = AreRead instance before
RefusesComparison instance before after (fault.After f) = IsMisreadAfter instance before after f

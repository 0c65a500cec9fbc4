-- The output of `places`.
use Rattle.std.specs.Prelude.{◌≡◌, ℕ, ◌<◌, ◌≤◌, List, Option, length, map}
use Rattle.std.specs.Io.KnownBytes.{Appends, Keeps}
use Rattle.exam_model.specs.Enrolments.{Enrolled}
use Rattle.exam_model.specs.Instance.{Session}
use Rattle.exam_model.specs.Timetable.{Placing}
use Rattle.exam_places.specs.Answers.{answers_of}
use Rattle.exam_places.specs.Places.{edit_answer, places_of}
use Rattle.office_output.specs.Writing.{WritesFront}
use Rattle.office_check.specs.declared.listing.PlacesAnswer.{PlacesAnswer}
use Rattle.office_check.specs.declared.listing.PlacesAnswer.TheVariants.{Listed, NoExam}
use Rattle.office_reports.specs.PlaceList.{places_text}

-- the exam exists, and this is the list of its places; the edit that puts it at a place answers what
-- the place's line says
pub record IsPlaceList (I : Session) (E : Enrolled) (T : Placing) (exam : ℕ) (text : List ℕ)
    : Type 0 where
  pub exists : exam < length I.exams
  pub spells : text ≡ places_text (places_of I E T exam)
  pub edits : map (λ row. edit_answer row.answer) (places_of I E T exam) ≡ answers_of I E T exam

-- the list of the exam's places is written
pub record WritesPlaces (I : Session) (E : Enrolled) (T : Placing) (exam : ℕ)
    (old new : Option (List ℕ)) : Type 0 where
  pub text : List ℕ
  pub lists : IsPlaceList I E T exam text
  pub written : Appends old new text

-- a front of that list is written
abbrev pub WritesPlacesFront : Session → Enrolled → Placing → ℕ → Option (List ℕ)
    → Option (List ℕ) → Type 0
WritesPlacesFront I E T exam old new =
    (text : List ℕ) × IsPlaceList I E T exam text × WritesFront old new text

-- the list is written; or the session has no such exam, and nothing is written
abbrev pub AnswersPlaces : Session → Enrolled → Placing → ℕ → Option (List ℕ) → Option (List ℕ)
    → PlacesAnswer → Type 0
AnswersPlaces I E T exam old new Listed = WritesPlaces I E T exam old new
AnswersPlaces I E T exam old new NoExam = (length I.exams ≤ exam) × Keeps old new

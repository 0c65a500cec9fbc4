-- The penalty after an edit, calculated from rows that are read from the file.
use Rattle.std.specs.Prelude.{◌≡◌, ℕ, ◌+◌, ◌<◌, ◌≤◌, List, ◌++◌, length, flat_map, All, Some}
use Rattle.sqlite.specs.Held.{Held}
use Rattle.sqlite.specs.Store.{Ghosts}
use Rattle.exam_terms.specs.declared.limits.TheConstants.{MAX_PAIRS}
use Rattle.exam_model.specs.Changes.{exams_sat}
use Rattle.exam_model.specs.Enrolments.{Enrolled, students}
use Rattle.exam_model.specs.Fits.{Fits}
use Rattle.exam_model.specs.Instance.{Session}
use Rattle.exam_model.specs.Pairs.{Pair}
use Rattle.exam_publish.specs.Changed.{sorted_numbers}
use Rattle.exam_score.specs.Changes.{DiffersAtMost}
use Rattle.exam_score.specs.Folds.{Folded, RepresentsPairs, pairs_sat}
use Rattle.exam_score.specs.Track.{track}
use Rattle.office_store.specs.declared.editing.EditedTimetable.{EditedTimetable}
use Rattle.office_store.specs.FoldReads.{HadEnrolments}

-- ---- the students of an edit

-- the students of these exams, ascending, each once
abbrev pub students_of_exams : Enrolled → List ℕ → List ℕ
students_of_exams E exams = sorted_numbers (flat_map (students E) exams)

-- the pairs of these students, one student after another, each student's pairs by exam
abbrev pub pairs_of_students : Enrolled → List ℕ → List Pair
pairs_of_students E all = flat_map (λ s. pairs_sat (Some s) (exams_sat E s)) all

-- ---- a fold

-- the fold has taken pairs of smaller students only, and has room for n more
pub record CanTake (fold : Folded) (student more : ℕ) : Type 0 where
  pub pairs : List Pair
  pub represents : RepresentsPairs fold pairs
  pub few : length pairs + more ≤ MAX_PAIRS
  pub below : All (λ p. p.student < student) pairs

-- the fold has taken `count` pairs; over a clean disk they are those of the students before these
pub record HasTaken {S : Type 0} (store : Ghosts S) (old new : Held S) (fold : Folded) (count : ℕ)
    (all rest : List ℕ) : Type 0 where
  pub pairs : List Pair
  pub represents : RepresentsPairs fold pairs
  pub counted : count ≡ length pairs
  pub few : count ≤ MAX_PAIRS
  pub below : All (λ s. All (λ p. p.student < s) pairs) rest
  pub are : (E : Enrolled) → HadEnrolments store old new E
      → pairs ++ pairs_of_students E rest ≡ pairs_of_students E all

-- ---- a legal edit

-- the edit and its earlier penalty are right for these enrolments
pub record IsEditOf (I : Session) (E : Enrolled) (judged : EditedTimetable) : Type 0 where
  pub fits : Fits I E judged.new
  pub others : DiffersAtMost judged.exams.items judged.draft.now.timetable judged.new
  pub scored : judged.draft.now.parts ≡ track I E judged.draft.now.timetable

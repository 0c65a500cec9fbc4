-- A timetable: a partial map from the exams 0, 1, 2, .. to places.
use Rattle.std.specs.Prelude.{◌≡◌, ℕ, ◌<◌, ◌≤◌, List, length, Option, None, Some, IsSome, slice_index_or, replicate}
use Rattle.exam_terms.specs.declared.limits.TheConstants.{MAX_EXAMS}
use Rattle.exam_terms.specs.declared.place.Place.{Place}
use Rattle.exam_model.specs.declared.timetable.TheConstants.{NO_PERIOD}

-- each exam's place, if it has one, at the exam's number
abbrev pub Placing : Type 0
Placing = List (Option Place)

-- an exam's place, if it has one
abbrev pub place_of : Placing → ℕ → Option Place
place_of T e = slice_index_or T e None

-- the number of a place's period; for none, a number that no period has
abbrev pub period_number : Option Place → ℕ
period_number None = NO_PERIOD
period_number (Some at) = at.period

-- a timetable of this many exams, none of which is placed
abbrev pub empty_timetable : ℕ → Placing
empty_timetable exams = replicate exams None

-- the number of exams is within the limits of a timetable
abbrev pub HasExams : Placing → Type 0
HasExams T = (1 ≤ length T) × (length T ≤ MAX_EXAMS)

-- the exam has no place, and each smaller one has
pub record IsFirstUnplaced (T : Placing) (e : ℕ) : Type 0 where
  pub exists : e < length T
  pub unplaced : place_of T e ≡ None
  pub placed_below : (f : ℕ) → f < e → IsSome (place_of T f)

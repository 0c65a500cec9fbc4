-- The part of an office that is kept in memory.
use Rattle.std.specs.Prelude.{◌≡◌, ℕ, length, List, Option, Some, None, option_map, slice_index_or}
use Rattle.exam_model.specs.Enrolments.{Enrolled}
use Rattle.exam_model.specs.Fits.{Suits}
use Rattle.exam_model.specs.Instance.{Session}
use Rattle.exam_model.specs.Timetable.{Placing}
use Rattle.exam_score.specs.Track.{track}
use Rattle.office_model.specs.Office.{OfficeState, Publication}
use Rattle.office_records.specs.declared.drafts.Draft.{Draft}

-- the session and its live enrolments
abbrev pub Memory : Type 0
Memory = Option (Session × Enrolled)

-- the part of an office that the program keeps in memory
abbrev pub memory_of : OfficeState → Memory
memory_of office = option_map (λ r. (r.session, r.enrolments)) office

-- the session and the enrolments have the same number of exams
abbrev pub AreConsistent : Memory → Type 0
AreConsistent None = Unit {0}
AreConsistent (Some kept) = length kept.1 ≡ length kept.0.exams

-- the weight of exams over night is 0; there is none before a load
abbrev pub HasNoNightWeight : Memory → Type 0
HasNoNightWeight None = Unit {0}
HasNoNightWeight (Some kept) = kept.0.weights.night ≡ 0

-- an office's publication, if it has one
abbrev pub published_in : OfficeState → Option Publication
published_in None = None
published_in (Some r) = r.published

-- ---- drafts

-- a timetable with its penalty by these enrolments
abbrev pub with_penalty : Session → Enrolled → Placing → Draft
with_penalty I E T = record { timetable = T; parts = track I E T }

-- the draft with a number in an office, with its penalty, if there is one
abbrev pub scored_draft : ℕ → OfficeState → Option Draft
scored_draft d None = None
scored_draft d (Some r) = option_map (with_penalty r.session r.enrolments) (r.draft d)

-- the draft with a number in memory, if there is one
abbrev pub draft_at : List (Option Draft) → ℕ → Option Draft
draft_at drafts d = slice_index_or drafts d None

-- the drafts in memory are these, with their penalties by these enrolments
abbrev pub AreScoredDrafts : Session → Enrolled → (ℕ → Option Placing) → List (Option Draft)
    → Type 0
AreScoredDrafts I E draft drafts =
    (d : ℕ) → draft_at drafts d ≡ option_map (with_penalty I E) (draft d)

-- each of these drafts places the session's exams only at places where they may be
abbrev pub AreSuited : Session → List (Option Draft) → Type 0
AreSuited I drafts =
    (d : ℕ) (draft : Draft) → draft_at drafts d ≡ Some draft → Suits I draft.timetable

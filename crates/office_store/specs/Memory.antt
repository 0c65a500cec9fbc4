-- What is kept in memory of an office.
use Rattle.std.specs.Prelude.{◌≡◌, ◌≢◌, ℕ, List, Vec, length, map, slice_index_or, is_some, Option, Some, None, option_map}
use Rattle.std.specs.List.{AllByRecursion}
use Rattle.std.specs.declared.alloc.Global.{Global}
use Rattle.exam_model.specs.Enrolments.{Enrolled}
use Rattle.exam_model.specs.Instance.{Session}
use Rattle.exam_model.specs.Timetable.{Placing}
use Rattle.exam_publish.specs.declared.seat_row.SeatRow.{SeatRow}
use Rattle.exam_rules.specs.Breaches.{breaches_of}
use Rattle.exam_rules.specs.declared.breach.Breach.{Breach}
use Rattle.exam_score.specs.Penalty.{Penalty}
use Rattle.exam_score.specs.Track.{track}
use Rattle.office_tables.specs.declared.tables.draft.DraftRow.{DraftRow}
use Rattle.office_model.specs.Office.{OfficeState, Publication, published_enrolments}
use Rattle.office_records.specs.FoundPublications.{AreFound, publication_from}
use Rattle.office_records.specs.Memory.{AreSuited, AreConsistent, draft_at, memory_of, published_in, with_penalty, scored_draft}
use Rattle.office_records.specs.Representation.{parts_of}
use Rattle.office_records.specs.TableRows.{drafts_at, number_if}
use Rattle.office_records.specs.declared.drafts.Draft.{Draft}
use Rattle.office_store.specs.declared.memory.OfficeMemory.{OfficeMemory}

-- ---- what an office has

-- the number of batches that an office keeps
abbrev pub batch_count : OfficeState → ℕ
batch_count None = 0
batch_count (Some r) = length r.batches

-- the penalty of a publication with the enrolments at that time, if there is one
abbrev pub priced_as : Session → Option Publication → Option Penalty
priced_as I published =
    option_map (λ p. track I (published_enrolments I p) p.timetable) published

-- the penalty of an office's publication, if it has one
abbrev pub priced_in : OfficeState → Option Penalty
priced_in None = None
priced_in (Some r) = priced_as r.session r.published

-- ---- what is in memory

-- the breaches in memory of the draft with a number, if they are there
abbrev pub judged_at : List (Option (Vec Breach Global)) → ℕ → Option (Vec Breach Global)
judged_at judged d = slice_index_or judged d None

-- the breaches in memory are those of these drafts by these enrolments
abbrev pub AreJudged : Session → Enrolled → List (Option Draft)
    → List (Option (Vec Breach Global)) → Type 0
AreJudged I E drafts judged =
    (d : ℕ) (found : Vec Breach Global) → judged_at judged d ≡ Some found
    → (draft : Draft) → draft_at drafts d ≡ Some draft
    → found.items ≡ breaches_of I E draft.timetable

-- no breaches are in memory
abbrev pub AreUnjudged : List (Option (Vec Breach Global)) → Type 0
AreUnjudged judged = (d : ℕ) → judged_at judged d ≡ None

-- the memory has this office's session, number of batches, drafts and publication, with its penalty
pub record IsMemoryOf (office : OfficeState) (memory : OfficeMemory) : Type 0 where
  pub session : memory_of office ≡ memory.kept
  pub batches : batch_count office ≡ memory.batches
  pub drafts : (d : ℕ) → draft_at memory.drafts d ≡ scored_draft d office
  pub published : published_in office ≡ publication_from memory.published
  pub priced : priced_in office ≡ memory.priced

-- each of these drafts has its penalty by these enrolments
abbrev pub AreScored : Session → Enrolled → List (Option Draft) → Type 0
AreScored I E drafts =
    (d : ℕ) (draft : Draft) → draft_at drafts d ≡ Some draft
    → draft.parts ≡ track I E draft.timetable

-- the enrolments, the drafts and the publication are of the session's exams, and the breaches are
-- those of the drafts, whatever the disk returns
pub record IsConsistent (memory : OfficeMemory) : Type 0 where
  pub exams : AreConsistent memory.kept
  pub drafts : (I : Session) (E : Enrolled) → memory.kept ≡ Some (I, E)
      → AreSuited I memory.drafts
  pub published : (I : Session) (E : Enrolled) → memory.kept ≡ Some (I, E)
      → AreFound I (publication_from memory.published)
  pub judged : (I : Session) (E : Enrolled) → memory.kept ≡ Some (I, E)
      → AreJudged I E memory.drafts memory.judged

-- ---- what changes in memory

-- a number has this draft, or none, and everything else is as it was
pub record HasPut (d : ℕ) (draft : Option Draft) (old new : OfficeMemory) : Type 0 where
  pub kept : new.kept ≡ old.kept
  pub batches : new.batches ≡ old.batches
  pub put : draft_at new.drafts d ≡ draft
  pub others : (e : ℕ) → e ≢ d → draft_at new.drafts e ≡ draft_at old.drafts e
  pub published : new.published ≡ old.published
  pub priced : new.priced ≡ old.priced
  pub judged : judged_at new.judged d ≡ None
  pub others_judged : (e : ℕ) → e ≢ d → judged_at new.judged e ≡ judged_at old.judged e

-- breaches of the draft with a number are in memory, or none, and everything else is as it was
pub record HasJudged (d : ℕ) (found : Option (Vec Breach Global)) (old new : OfficeMemory)
    : Type 0 where
  pub kept : new.kept ≡ old.kept
  pub batches : new.batches ≡ old.batches
  pub drafts : new.drafts ≡ old.drafts
  pub published : new.published ≡ old.published
  pub priced : new.priced ≡ old.priced
  pub judged : judged_at new.judged d ≡ found
  pub others_judged : (e : ℕ) → e ≢ d → judged_at new.judged e ≡ judged_at old.judged e

-- this publication with its penalty replaces the one before, and everything else is as it was
pub record HasPublished (publication : Placing × Vec SeatRow Global) (penalty : Penalty)
    (old new : OfficeMemory) : Type 0 where
  pub kept : new.kept ≡ old.kept
  pub batches : new.batches ≡ old.batches
  pub drafts : new.drafts ≡ old.drafts
  pub published : new.published ≡ Some publication
  pub priced : new.priced ≡ Some penalty
  pub judged : new.judged ≡ old.judged

-- a draft with its penalty by these enrolments
abbrev pub rescored_draft : Session → Enrolled → Draft → Draft
rescored_draft I E draft = with_penalty I E draft.timetable

-- the new drafts are the old ones with their penalties by these enrolments
abbrev pub AreRescored : Session → Enrolled → List (Option Draft) → List (Option Draft) → Type 0
AreRescored I E old new =
    (d : ℕ) → draft_at new d ≡ option_map (rescored_draft I E) (draft_at old d)

-- after a batch the memory has the new enrolments and drafts, and no breaches; or, if it made none,
-- all that it had
abbrev pub IsBatchApplied : Session → Enrolled → Option Enrolled → List (Option Draft)
    → OfficeMemory → OfficeMemory → Type 0
IsBatchApplied I E None drafts old new =
    (new.kept ≡ Some (I, E)) × (new.drafts ≡ old.drafts) × (new.judged ≡ old.judged)
IsBatchApplied I E (Some F) drafts old new =
    (new.kept ≡ Some (I, F)) × (new.drafts ≡ drafts) × AreUnjudged new.judged

-- ---- rows of drafts

-- each of these drafts has exactly one of these rows, with its penalty
pub record AreDraftRows (drafts : List (Option Draft)) (rows : List DraftRow) : Type 0 where
  pub numbers : (d : ℕ) → map (λ row. row.no) (drafts_at d rows)
      ≡ number_if (is_some (draft_at drafts d)) d
  pub scored : AllByRecursion (λ row. (draft : Draft) → draft_at drafts row.no ≡ Some draft
      → parts_of row ≡ draft.parts) rows

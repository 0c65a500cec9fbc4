-- The office: nothing, or the records of one examination session.
use Rattle.std.specs.Prelude.{◌≡◌, ◌≢◌, ℕ, ◌<◌, ◌≤◌, ◌==◌, if◌then◌else◌, List, length, All, AllPairs, Option, Some, None, IsSome}
use Rattle.exam_terms.specs.declared.limits.TheConstants.{MAX_BATCH, MAX_BATCHES, MAX_DEPARTMENT, MAX_DRAFTS, TEXT_BYTES}
use Rattle.exam_model.specs.Enrolments.{Enrolled, AreEnrolments}
use Rattle.exam_model.specs.Fits.{Fits}
use Rattle.exam_model.specs.Instance.{Session, IsInstance}
use Rattle.exam_model.specs.Timetable.{Placing}
use Rattle.exam_publish.specs.declared.seat_row.SeatRow.{SeatRow}
use Rattle.exam_publish.specs.Permit.{least_breach}
use Rattle.exam_publish.specs.Rows.{ArePublishedRows, enrolled_in}
use Rattle.exam_publish.specs.Seats.{AreSeated}
use Rattle.office_model.specs.declared.counts.Counts.{Counts}

-- a publication: the place of each exam, and the seat rows
pub record Publication : Type 0 where
  pub timetable : Placing
  pub rows : List SeatRow

-- an accepted batch, with its counts
pub record KeptBatch : Type 0 where
  pub no : ℕ
  pub bytes : List ℕ
  pub counts : Counts

-- the data of a loaded session; department 0 means no owner
pub record Records : Type 0 where
  pub session : Session
  pub owner_of : ℕ → ℕ
  pub enrolments : Enrolled
  pub draft : ℕ → Option Placing
  pub published : Option Publication
  pub batches : List KeptBatch

-- nothing before a load
abbrev pub OfficeState : Type 0
OfficeState = Option Records

-- a function with another value at one number
abbrev pub set_at : {X : Type 0} → ℕ → X → (ℕ → X) → ℕ → X
set_at k x f n = if n == k then x else f n

-- the enrolments at a publication: the pairs of its seat rows
abbrev pub published_enrolments : Session → Publication → Enrolled
published_enrolments I p = enrolled_in (length I.exams) p.rows

-- ---- the invariants of every office

-- enrolments of this session's exams
pub record AreEnrolled (I : Session) (E : Enrolled) : Type 0 where
  pub set : AreEnrolments E
  pub exams : length E ≡ length I.exams

-- each exam has a place, no rule is broken with the enrolments of the rows, each row is at its
-- exam's place, and each seat is one of its room that no other row has
pub record IsPublication (I : Session) (p : Publication) : Type 0 where
  pub rows : ArePublishedRows I p.rows p.timetable
  pub seated : AreSeated I p.rows
  pub enrolled : AreEnrolled I (published_enrolments I p)
  pub unbroken : least_breach I (published_enrolments I p) p.timetable ≡ None

-- a batch within its limits
pub record IsKeptBatch (b : KeptBatch) : Type 0 where
  pub number : b.no ≤ MAX_BATCH
  pub size : length b.bytes ≤ TEXT_BYTES

-- batches of different numbers, within the limit
pub record AreKept (batches : List KeptBatch) : Type 0 where
  pub few : length batches ≤ MAX_BATCHES
  pub within : All IsKeptBatch batches
  pub numbers : AllPairs (λ b c. b.no ≢ c.no) batches

-- of a loaded office
pub record AreRecords (r : Records) : Type 0 where
  pub session : IsInstance r.session
  pub enrolled : AreEnrolled r.session r.enrolments
  pub departments : (e : ℕ) → r.owner_of e ≤ MAX_DEPARTMENT
  pub owned : (e : ℕ) → r.owner_of e ≢ 0 → e < length r.session.exams
  pub numbered : (d : ℕ) → IsSome (r.draft d) → (1 ≤ d) × (d ≤ MAX_DRAFTS)
  pub drafts : (d : ℕ) (T : Placing) → r.draft d ≡ Some T → Fits r.session r.enrolments T
  pub publication : (p : Publication) → r.published ≡ Some p → IsPublication r.session p
  pub batches : AreKept r.batches

-- there is no session yet, or these are the records of one
abbrev pub IsOffice : OfficeState → Type 0
IsOffice None = Unit {0}
IsOffice (Some r) = AreRecords r

-- The rows of the shares of exams, periods and rooms.
use Rattle.std.specs.Prelude.{◌≡◌, ℕ, ◌+◌, ◌≤◌, List, [], ◌∷◌, ◌++◌, length, Option, Some, None}
use Rattle.exam_terms.specs.declared.limits.TheConstants.{MAX_EXAMS, MAX_PERIODS, MAX_ROOMS}
use Rattle.exam_model.specs.Instance.{Session}
use Rattle.exam_publish.specs.Shares.{Sharing, shares_of}
use Rattle.exam_publish.specs.declared.share_lists.RoomShare.{RoomShare}
use Rattle.office_tables.specs.declared.tables.share_part.PartShareRow.{PartShareRow}
use Rattle.office_model.specs.Office.{Publication}
use Rattle.office_records.specs.declared.part_shares.PartKind.{PartKind}
use Rattle.office_records.specs.declared.part_shares.PartKind.TheVariants.{Exam, Period, Room}

-- shares of exams (kind 0) or periods (kind 1), from a number on
abbrev pub plain_rows : ℕ → ℕ → List ℕ → List PartShareRow
plain_rows kind n [] = []
plain_rows kind n (share ∷ shares) =
    record { kind = kind; no = n; penalty = share; mixed = 0 } ∷ plain_rows kind (n + 1) shares

-- shares of rooms (kind 2), from a number on
abbrev pub room_rows : ℕ → List RoomShare → List PartShareRow
room_rows n [] = []
room_rows n (share ∷ shares) =
    record { kind = 2; no = n; penalty = share.penalty; mixed = share.mixed }
    ∷ room_rows (n + 1) shares

-- the shares of all exams, all periods and all rooms, by their numbers
abbrev pub part_rows : Sharing → List PartShareRow
part_rows shares =
    plain_rows 0 0 shares.exams ++ (plain_rows 1 0 shares.periods ++ room_rows 0 shares.rooms)

-- the rows of the shares of exams, periods and rooms of a publication; none if nothing is published
abbrev pub part_share_rows : Session → Option Publication → List PartShareRow
part_share_rows I None = []
part_share_rows I (Some p) = part_rows (shares_of I p.rows p.timetable)

-- how a kind is written
abbrev pub part_kind_number : PartKind → ℕ
part_kind_number Exam = 0
part_kind_number Period = 1
part_kind_number Room = 2

-- at most as many exams, periods and rooms as a session may have
pub record HasFewParts (shares : Sharing) : Type 0 where
  pub exams : length shares.exams ≤ MAX_EXAMS
  pub periods : length shares.periods ≤ MAX_PERIODS
  pub rooms : length shares.rooms ≤ MAX_ROOMS

-- each exam, each period and each room of the session has one share
pub record HasShareOfEach (I : Session) (shares : Sharing) : Type 0 where
  pub exams : length shares.exams ≡ length I.exams
  pub periods : length shares.periods ≡ length I.periods
  pub rooms : length shares.rooms ≡ length I.rooms

-- What is read of a publication.
use Rattle.std.specs.Prelude.{◌≡◌, List, Vec, Option, Some, None, IfSome, option_map, Result, Ok, Err}
use Rattle.std.specs.declared.alloc.Global.{Global}
use Rattle.exam_model.specs.Timetable.{Placing}
use Rattle.exam_model.specs.Instance.{Session}
use Rattle.exam_publish.specs.AddUp.{AddUpTo}
use Rattle.exam_publish.specs.Shares.{Sharing, shares_of}
use Rattle.exam_publish.specs.declared.seat_row.SeatRow.{SeatRow}
use Rattle.exam_score.specs.Track.{track}
use Rattle.office_model.specs.Office.{OfficeState, Publication, published_enrolments}
use Rattle.office_model.specs.Step.{publication_in}
use Rattle.office_tables.specs.declared.tables.share_part.PartShareRow.{PartShareRow}
use Rattle.office_tables.specs.declared.tables.share_student.StudentShareRow.{StudentShareRow}
use Rattle.office_records.specs.SharesStored.{AreSharesOf}

-- the place of each exam, and the seats
abbrev pub Shown : Type 0
Shown = Placing × List SeatRow

-- the places and seats of the publication, if there is one
abbrev pub publication_shown : OfficeState → Option Shown
publication_shown office =
    option_map (λ (found : Session × Publication). (found.1.timetable, found.1.rows))
    (publication_in office)

-- the place of each exam in the publication, if there is one
abbrev pub timetable_shown : OfficeState → Option Placing
timetable_shown office =
    option_map (λ (found : Session × Publication). found.1.timetable) (publication_in office)

-- the shares of the publication, if there is one
abbrev pub shares_in : OfficeState → Option Sharing
shares_in office =
    option_map (λ (found : Session × Publication). shares_of found.0 found.1.rows found.1.timetable)
    (publication_in office)

-- the result with its rows as a plain list
abbrev pub plain : {F : Type 0} → Result (Option (Placing × Vec SeatRow Global)) F
    → Result (Option Shown) F
plain (Ok found) = Ok (option_map (λ p. (p.0, p.1.items)) found)
plain (Err fault) = Err fault

-- the shares add up to the penalty of the publication, by the enrolments of the publication
abbrev pub AddUpIn : OfficeState → Option Sharing → Type 0
AddUpIn office None = Unit {0}
AddUpIn office (Some shares) =
    (found : Session × Publication) × (publication_in office ≡ Some found)
    × AddUpTo (track found.0 (published_enrolments found.0 found.1) found.1.timetable) shares

-- if something is published, the stored rows are shares that add up to its penalty
abbrev pub StoredAddUp : OfficeState → List StudentShareRow → List PartShareRow → Type 0
StoredAddUp office students parts =
    IfSome (publication_in office) (λ (found : Session × Publication).
    (shares : Sharing) × AreSharesOf students parts shares
    × AddUpTo (track found.0 (published_enrolments found.0 found.1) found.1.timetable) shares)

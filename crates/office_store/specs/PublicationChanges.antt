-- What a publication changes in the tables.
use Rattle.std.specs.Prelude.{◌++◌, ◌&&◌, ◌==◌, ℕ, List, filter, map, not, reverse, true, [], ◌∷◌, Option, None, Some, Vec}
use Rattle.std.specs.List.{list_any}
use Rattle.std.specs.declared.alloc.Global.{Global}
use Rattle.office_tables.specs.Tables.Metadata.{Meta}
use Rattle.office_tables.specs.Tables.{Tables}
use Rattle.office_tables.specs.declared.tables.seat.DeleteSeat.{DeleteSeat}
use Rattle.office_tables.specs.declared.tables.seat.SeatRow.{SeatRow}
use Rattle.office_records.specs.SharesStored.{share_rows_without}
use Rattle.office_store.specs.ChangedPlacements.{placements_without}
use Rattle.office_store.specs.declared.new_publication.NewPublication.{NewPublication}

-- the row about the office: something is published of the session with this text; or the old row
abbrev pub meta_after : Option (Vec ℕ Global) → List Meta → List Meta
meta_after None meta = meta
meta_after (Some text) meta = record { published = true; instance = text.items } ∷ []

-- the row about the office is written, if there is a text for it
abbrev pub mark_put : Option (Vec ℕ Global) → Tables → Tables
mark_put text t = record t { meta = meta_after text t.meta }

-- the stored seats but for those that are deleted
abbrev pub seats_left : List DeleteSeat → List SeatRow → List SeatRow
seats_left gone stored =
    filter
    (λ row. not (list_any (λ it. (row.student == it.student) && (row.exam == it.exam)) gone))
    stored

-- the row about the office is written, if there is a text for it; some placements and some seats are
-- deleted and inserted
abbrev pub places_put : NewPublication → Tables → Tables
places_put new t = record t {
  meta = meta_after new.text t.meta;
  placed = reverse (map (λ it. it.row) new.placements.items)
      ++ placements_without (map (λ it. it.exam) new.deleted_placements.items) t.placed;
  seat = reverse (map (λ it. it.row) new.seats.items)
      ++ seats_left new.seats_gone.items t.seat;
}

-- some candidates' shares are deleted and inserted; all shares of exams, periods and rooms are
-- replaced
abbrev pub shares_put : NewPublication → Tables → Tables
shares_put new t = record t {
  share_student = reverse (map (λ it. it.row) new.students.items)
      ++ share_rows_without (map (λ it. it.student) new.deleted_shares.items) t.share_student;
  share_part = reverse (map (λ it. it.row) new.parts.items);
}

-- the tables after a publication replaces another, with its shares
abbrev pub publication_put : NewPublication → Tables → Tables
publication_put new t = shares_put new (places_put new t)

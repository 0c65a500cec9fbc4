-- The texts that list whole tables.
use Rattle.std.proofs.Common.{◌≡◌, ℕ, List, [], ◌∷◌, codes, take, refl, sym, ap, arith}
use Rattle.std.specs.List.{AllByRecursion}
use Rattle.sqlite_schema.specs.declared.schema.Constraint.TheVariants.{Datatype, NotNull}
use Rattle.sqlite_trees.proofs.ListLemmas.{all_of, all_weaker}
use Rattle.sqlite_value.specs.Order.{Row, column}
use Rattle.sqlite.specs.Effect.{Database, IsDatabase}
use Rattle.sqlite.specs.Listing.{understood}
use Rattle.sqlite.specs.Term.{Term, col}
use Rattle.sqlite_tied.specs.Compute.{everything}
use Rattle.office_tables.specs.declared.version.Version.{Version}
use Rattle.office_tables.specs.declared.version.Version.TheVariants.{One, Two}
use Rattle.office_tables.specs.Listings.{Lists, ListsKeyed, ListsTable, IsListed, selected_columns, ordered_by}
use Rattle.office_tables.specs.Versions.{schema_of}
use Rattle.office_schema.specs.Schema.{int, blob}
use Rattle.office_tables.specs.Tables.Metadata.{meta_table}
use Rattle.office_tables.specs.Tables.Owner.{owner_table}
use Rattle.office_tables.specs.Tables.Enrol.{enrol_table}
use Rattle.office_tables.specs.Tables.Draft.{draft_table, night_draft_table}
use Rattle.office_tables.specs.Tables.Slot.{slot_table}
use Rattle.office_tables.specs.Tables.Placed.{placed_table}
use Rattle.office_tables.specs.Tables.Seat.{seat_table}
use Rattle.office_tables.specs.Tables.ShareStudent.{share_student_table, night_share_table}
use Rattle.office_tables.specs.Tables.SharePart.{share_part_table}
use Rattle.office_tables.specs.Stored.{keyed_columns, keyless_columns}
use Rattle.office_tables.proofs.WholeRows.{dropped, rows_long}
use Rattle.office_tables.proofs.WholeTables.{ListsAll, in_both, in_second, lists_both, lists_table}

-- ---- owner

abbrev pub owner_text : List ℕ
owner_text = codes "SELECT exam, dept, rowid FROM owner ORDER BY rowid"

pub owner_lists : (version : Version) → ListsTable version 2 1 keyed_columns owner_text
unfolding understood everything
owner_lists =
    lists_both 1 owner_table refl (take 1 owner_table.columns) (int (codes "dept")) refl refl refl owner_text
    (record { names = _; selects = refl; unlisted = refl; plain = (refl, refl) })
    (record { names = _; selects = refl; unlisted = refl; plain = (refl, refl) })

-- ---- enrol

abbrev pub enrol_text : List ℕ
enrol_text = codes "SELECT student, exam, rowid FROM enrol ORDER BY rowid"

pub enrol_lists : (version : Version) → ListsTable version 2 2 keyless_columns enrol_text
unfolding understood everything
enrol_lists =
    lists_both 2 enrol_table refl (take 1 enrol_table.columns) (int (codes "exam")) refl refl refl enrol_text
    (record { names = _; selects = refl; unlisted = refl; plain = (refl, refl) })
    (record { names = _; selects = refl; unlisted = refl; plain = (refl, refl) })

-- ---- draft

abbrev pub draft_text : List ℕ
draft_text = codes "SELECT no, in_row, in_day, spread, mixed, front, period, room, rowid FROM draft ORDER BY rowid"

pub draft_lists : (version : Version) → ListsKeyed version 0 8 4 keyed_columns draft_text
unfolding understood everything
draft_lists version = record {
  table = lists_both 3 draft_table refl (take 7 draft_table.columns) (int (codes "room")) refl refl refl draft_text
      (record { names = _; selects = refl; unlisted = refl; plain = (refl, refl) })
      (record { names = _; selects = refl; unlisted = refl; plain = (refl, refl) }) version;
  within = omega arith;
  number = λ _. refl;
}

-- ---- slot

abbrev pub slot_text : List ℕ
slot_text = codes "SELECT draft, exam, period, room, rowid FROM slot ORDER BY rowid"

pub slot_lists : (version : Version) → ListsTable version 4 5 keyless_columns slot_text
unfolding understood everything
slot_lists =
    lists_both 4 slot_table refl (take 3 slot_table.columns) (int (codes "room")) refl refl refl slot_text
    (record { names = _; selects = refl; unlisted = refl; plain = (refl, refl) })
    (record { names = _; selects = refl; unlisted = refl; plain = (refl, refl) })

-- ---- placed

abbrev pub placed_text : List ℕ
placed_text = codes "SELECT exam, period, room, rowid FROM placed ORDER BY rowid"

pub placed_lists : (version : Version) → ListsTable version 3 7 keyed_columns placed_text
unfolding understood everything
placed_lists =
    lists_both 5 placed_table refl (take 2 placed_table.columns) (int (codes "room")) refl refl refl placed_text
    (record { names = _; selects = refl; unlisted = refl; plain = (refl, refl) })
    (record { names = _; selects = refl; unlisted = refl; plain = (refl, refl) })

-- ---- seat

abbrev pub seat_text : List ℕ
seat_text = codes "SELECT student, exam, period, room, seat, rowid FROM seat ORDER BY rowid"

pub seat_lists : (version : Version) → ListsTable version 5 8 keyless_columns seat_text
unfolding understood everything
seat_lists =
    lists_both 6 seat_table refl (take 4 seat_table.columns) (int (codes "seat")) refl refl refl seat_text
    (record { names = _; selects = refl; unlisted = refl; plain = (refl, refl) })
    (record { names = _; selects = refl; unlisted = refl; plain = (refl, refl) })

-- ---- share_student

abbrev pub share_student_text : List ℕ
share_student_text = codes "SELECT student, in_row, in_day, spread, rowid FROM share_student ORDER BY rowid"

pub share_student_lists : (version : Version) → ListsKeyed version 0 4 11 keyed_columns share_student_text
unfolding understood everything
share_student_lists version = record {
  table = lists_both 7 share_student_table refl (take 3 share_student_table.columns) (int (codes "spread"))
      refl refl refl share_student_text
      (record { names = _; selects = refl; unlisted = refl; plain = (refl, refl) })
      (record { names = _; selects = refl; unlisted = refl; plain = (refl, refl) }) version;
  within = omega arith;
  number = λ _. refl;
}

-- ---- share_part

abbrev pub share_part_text : List ℕ
share_part_text = codes "SELECT kind, no, penalty, mixed, rowid FROM share_part ORDER BY rowid"

pub share_part_lists : (version : Version) → ListsTable version 4 12 keyless_columns share_part_text
unfolding understood everything
share_part_lists =
    lists_both 8 share_part_table refl (take 3 share_part_table.columns) (int (codes "mixed"))
    refl refl refl share_part_text
    (record { names = _; selects = refl; unlisted = refl; plain = (refl, refl) })
    (record { names = _; selects = refl; unlisted = refl; plain = (refl, refl) })

-- ---- night_draft

abbrev pub night_draft_text : List ℕ
night_draft_text = codes "SELECT no, night, rowid FROM night_draft ORDER BY rowid"

night_draft_is : ListsAll Two night_draft_table night_draft_text
unfolding understood everything
night_draft_is = record { names = _; selects = refl; unlisted = refl; plain = (refl, refl) }

pub night_draft_lists : ListsKeyed Two 0 2 15 keyed_columns night_draft_text
night_draft_lists = record {
  table = lists_table Two night_draft_table (in_second 10 night_draft_table refl)
      (take 1 night_draft_table.columns) (int (codes "night")) refl refl refl night_draft_text night_draft_is;
  within = omega arith;
  number = λ _. refl;
}

-- ---- night_share

abbrev pub night_share_text : List ℕ
night_share_text = codes "SELECT student, night, rowid FROM night_share ORDER BY rowid"

night_share_is : ListsAll Two night_share_table night_share_text
unfolding understood everything
night_share_is = record { names = _; selects = refl; unlisted = refl; plain = (refl, refl) }

pub night_share_lists : ListsKeyed Two 0 2 16 keyed_columns night_share_text
night_share_lists = record {
  table = lists_table Two night_share_table (in_second 11 night_share_table refl)
      (take 1 night_share_table.columns) (int (codes "night")) refl refl refl night_share_text night_share_is;
  within = omega arith;
  number = λ _. refl;
}

-- ---- batch

abbrev pub batch_text : List ℕ
batch_text = codes "SELECT no, added, dropped, unchanged, rowid FROM batch ORDER BY rowid"

abbrev batch_terms : List Term
batch_terms = col 1 0 ∷ col 1 3 ∷ col 1 4 ∷ col 1 5 ∷ col 1 0 ∷ []

batch_is : (version : Version) → Lists version 14 batch_terms (ordered_by batch_terms 4) batch_text
unfolding understood everything
batch_is One = record { names = _; selects = refl; unlisted = refl; plain = (refl, refl) }
batch_is Two = record { names = _; selects = refl; unlisted = refl; plain = (refl, refl) }

-- the numbers of a stored batch
abbrev pub counts_shown : Row → Row
counts_shown r = column r 0 ∷ column r 3 ∷ column r 4 ∷ column r 5 ∷ []

batch_whole : (version : Version) (db : Database) → db.schema ≡ schema_of version
    → IsDatabase db
    → AllByRecursion (λ r. IsListed 4 counts_shown r (selected_columns batch_terms r)) (db.trees 14)
batch_whole version db is sound =
    all_of (λ r. IsListed 4 counts_shown r (selected_columns batch_terms r))
    (λ r. record { columns = refl; number = refl; wide = omega arith }) (db.trees 14)

pub batch_lists : (version : Version) → ListsTable version 4 14 counts_shown batch_text
batch_lists version = record {
  terms = batch_terms;
  lists = batch_is version;
  whole = batch_whole version;
}

-- ---- meta

abbrev pub meta_text : List ℕ
meta_text = codes "SELECT id, version, published, instance FROM meta"

abbrev pub meta_terms : List Term
meta_terms = col 1 0 ∷ col 1 2 ∷ col 1 3 ∷ col 1 4 ∷ []

pub meta_is : (version : Version) → Lists version 0 meta_terms [] meta_text
unfolding understood everything
meta_is One = record { names = _; selects = refl; unlisted = refl; plain = (refl, refl) }
meta_is Two = record { names = _; selects = refl; unlisted = refl; plain = (refl, refl) }

pub meta_whole : (version : Version) (db : Database) → db.schema ≡ schema_of version
    → IsDatabase db
    → AllByRecursion (λ r. selected_columns meta_terms r ≡ keyed_columns r) (db.trees 0)
meta_whole version db is sound =
    all_weaker _ (λ r. selected_columns meta_terms r ≡ keyed_columns r)
    (λ r long. ap (λ l. column r 0 ∷ l) (sym (dropped 2 3 r long)))
    (db.trees 0)
    (rows_long meta_table (take 3 meta_table.columns)
    (blob (codes "instance")) refl refl refl (schema_of version) db.trees (db.trees 0)
    (in_both version 0 meta_table refl Datatype db is sound)
    (in_both version 0 meta_table refl NotNull db is sound))

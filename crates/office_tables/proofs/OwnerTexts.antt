-- The rows that queries read from the table of owners.
use Rattle.std.proofs.Common.{◌≡◌, ℕ, pos, List, [], ◌∷◌, filter, ◌==◌, codes, refl, IsPermutation}
use Rattle.sqlite_value.specs.declared.value.Value.TheVariants.{Int}
use Rattle.sqlite_value.specs.Order.{Row, column}
use Rattle.sqlite.specs.Effect.{Database}
use Rattle.sqlite.specs.Listing.{understood}
use Rattle.sqlite.specs.Query.{Query, inner, end}
use Rattle.sqlite.specs.Term.{Term, col}
use Rattle.sqlite_tied.specs.Compute.{everything}
use Rattle.office_tables.specs.Tables.{office_schema, Tables}
use Rattle.office_tables.specs.Asking.{select_query, IsReadOf, Means}
use Rattle.office_tables.specs.declared.tables.owner.OwnerRow.{OwnerRow}
use Rattle.office_tables.specs.TablesHeld.{HoldsTables}
use Rattle.office_tables.specs.Stored.{keyed_columns}
use Rattle.office_tables.specs.Tables.Owner.{owner_columns}
use Rattle.office_tables.proofs.OrderLemmas.{read, rising, table_shown}
use Rattle.office_tables.proofs.Queries.{column_later, equal_numbers, equals, passes}
use Rattle.office_tables.proofs.RecordsBack.{owner_of}
use Rattle.office_tables.proofs.Frames.{held_at}

abbrev pub owners_of_text : List ℕ
owners_of_text = codes "SELECT exam, dept FROM owner WHERE exam = ?1 ORDER BY exam"

abbrev columns : List Term
columns = col 1 0 ∷ col 1 2 ∷ []

abbrev pub owners_of_query : Query
owners_of_query = select_query (inner 1 end) (equals 0 0 ∷ []) columns (rising columns (0 ∷ []))

pub owners_of_means : Means office_schema owners_of_query owners_of_text
unfolding understood everything
owners_of_means = record { names = _; selects = refl; unlisted = refl; plain = (refl, refl) }

abbrev picked : Row → Row
picked row = column row 0 ∷ column row 1 ∷ []

shown_is : (r : Row) → column r 0 ∷ column r 2 ∷ [] ≡ picked (keyed_columns r)
shown_is r = rw (column_later r 0) refl

pub owners_of_read : (db : Database) (exam : ℕ) (t : Tables) → HoldsTables db t → (found : List OwnerRow)
    → IsReadOf owner_columns 2 (Int (pos exam) ∷ []) owners_of_query db.trees found
    → IsPermutation (filter (λ r. r.exam == exam) t.owner) found
owners_of_read db exam t represents found is =
    let params : Row = Int (pos exam) ∷ [] in
    (read owner_of owner_columns 2 (λ x. refl) (λ x. refl) (inner 1 end) (equals 0 0 ∷ []) columns
    (0 ∷ []) (λ (x : OwnerRow). x.exam ∷ []) (λ x. refl) db.trees params
    (filter (λ r. r.exam == exam) t.owner) found
    (table_shown owner_columns keyed_columns picked params 1 (equals 0 0 ∷ []) columns shown_is
    (λ x. refl) (passes params (equals 0 0 ∷ [])) (λ r. refl)
    (λ r. r.exam == exam) (λ x. equal_numbers x.exam exam) db.trees t.owner
    (held_at 1 represents).same) is).0

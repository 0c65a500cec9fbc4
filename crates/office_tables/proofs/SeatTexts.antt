-- The rows that a query reads from the table seat.
use Rattle.std.proofs.lemmas.Grind.{common_steps}
use Rattle.std.proofs.Common.{◌≡◌, ℕ, pos, List, [], ◌∷◌, filter, true, ◌&&◌, ◌==◌, codes, refl, ap, arith}
use Rattle.sqlite_sql.specs.declared.ops.BinaryOp.TheVariants.{Compare}
use Rattle.sqlite_sql.specs.declared.ops.CompareOp.TheVariants.{Eq}
use Rattle.sqlite_sql.specs.Ops.{binary, is_true}
use Rattle.sqlite_value.specs.declared.keys.Collation.TheVariants.{Binary}
use Rattle.sqlite_value.specs.declared.value.Value.TheVariants.{Int}
use Rattle.sqlite_value.specs.Order.{Row, column}
use Rattle.sqlite.specs.Effect.{Database}
use Rattle.sqlite.specs.Listing.{understood}
use Rattle.sqlite.specs.Query.{Query, inner, end}
use Rattle.sqlite.specs.Term.{Term, col}
use Rattle.sqlite_tied.specs.Compute.{everything}
use Rattle.office_tables.specs.Tables.{office_schema, Tables}
use Rattle.office_tables.specs.Asking.{select_query, IsReadOf, Means}
use Rattle.office_tables.specs.declared.tables.seat.SeatRow.{SeatRow}
use Rattle.office_tables.specs.TablesHeld.{HoldsTables}
use Rattle.office_tables.specs.Stored.{keyless_columns}
use Rattle.office_tables.specs.Tables.Seat.{StudentSeatsRise, seat_columns}
use Rattle.office_tables.specs.Selections.{AreListed}
use Rattle.office_tables.proofs.OrderLemmas.{by_number, read, rising, table_shown}
use Rattle.office_tables.proofs.Queries.{column_less, equal_numbers, equals, passes}
use Rattle.office_tables.proofs.RecordsBack.{seat_of}
use Rattle.office_tables.proofs.Frames.{held_at}

abbrev pub seat_terms : List Term
seat_terms = col 1 1 ∷ col 1 2 ∷ col 1 3 ∷ col 1 4 ∷ col 1 5 ∷ []

abbrev seat_picked : Row → Row
seat_picked row = column row 0 ∷ column row 1 ∷ column row 2 ∷ column row 3 ∷ column row 4 ∷ []

seat_shown : (r : Row) → column r 1 ∷ column r 2 ∷ column r 3 ∷ column r 4 ∷ column r 5 ∷ []
    ≡ seat_picked (keyless_columns r)
seat_shown r = grind (arith, common_steps, column_less)

-- ---- SELECT student, exam, period, room, seat FROM seat WHERE student = ?1 ORDER BY exam

abbrev pub seats_of_text : List ℕ
seats_of_text = codes
    "SELECT student, exam, period, room, seat FROM seat WHERE student = ?1 ORDER BY exam"

abbrev pub seats_of_query : Query
seats_of_query =
    select_query (inner 8 end) (equals 1 0 ∷ []) seat_terms (rising seat_terms (1 ∷ []))

pub seats_of_means : Means office_schema seats_of_query seats_of_text
unfolding understood everything
seats_of_means = record { names = _; selects = refl; unlisted = refl; plain = (refl, refl) }

pub seats_of_read : (db : Database) (number : ℕ) (t : Tables) → HoldsTables db t → (found : List SeatRow)
    → IsReadOf seat_columns 5 (Int (pos number) ∷ []) seats_of_query db.trees found
    → AreListed StudentSeatsRise (filter (λ r. r.student == number) t.seat) found
seats_of_read db number t represents found is =
    let params : Row = Int (pos number) ∷ [] in
    by_number (λ (x : SeatRow). x.exam) _ found
    (read seat_of seat_columns 5 (λ x. refl) (λ x. refl) (inner 8 end) (equals 1 0 ∷ []) seat_terms
    (1 ∷ []) (λ (x : SeatRow). x.exam ∷ []) (λ x. refl) db.trees params
    (filter (λ r. r.student == number) t.seat) found
    (table_shown seat_columns keyless_columns seat_picked params 8 (equals 1 0 ∷ []) seat_terms seat_shown
    (λ x. refl) (passes params (equals 0 0 ∷ [])) (λ r.
    ap (λ v. is_true (binary (Compare Eq Binary) v (Int (pos number))) && true) (column_less r 0))
    (λ r. r.student == number) (λ x. equal_numbers x.student number) db.trees t.seat
    (held_at 6 represents).same) is)

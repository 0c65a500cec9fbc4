-- The rows that queries read from the table of enrolments.
use Rattle.std.proofs.Common.{◌≡◌, ℕ, pos, List, [], ◌∷◌, map, filter, true, ◌&&◌, ◌==◌, codes, refl, ap, arith, IsPermutation, Option, Some, None}
use Rattle.std.specs.Prelude.{Vec}
use Rattle.std.specs.declared.alloc.Global.{Global}
use Rattle.sqlite_sql.specs.declared.ops.BinaryOp.TheVariants.{Compare}
use Rattle.sqlite_sql.specs.declared.ops.CompareOp.TheVariants.{Eq}
use Rattle.sqlite_sql.specs.Ops.{binary, is_true}
use Rattle.sqlite_value.specs.declared.keys.Collation.TheVariants.{Binary}
use Rattle.sqlite_value.specs.declared.value.Value.TheVariants.{Int}
use Rattle.sqlite_value.specs.Order.{Row, column}
use Rattle.sqlite.specs.Effect.{Database}
use Rattle.sqlite.specs.Listing.{understood}
use Rattle.sqlite.specs.Query.{Query, inner, end, matches}
use Rattle.sqlite.specs.Term.{Term, col, eval_all}
use Rattle.sqlite_tied.specs.Compute.{everything}
use Rattle.office_tables.specs.Tables.{office_schema, Tables}
use Rattle.office_tables.specs.Asking.{select_query, IsReadOf, Means}
use Rattle.office_tables.specs.Readings.{IsReadAnswer}
use Rattle.office_tables.specs.Tables.Enrol.{FitsEnrol, StudentEnrolsRise, enrol_columns}
use Rattle.office_tables.specs.Selections.{AreListed, AreListedIfFit}
use Rattle.office_tables.specs.declared.tables.enrol.EnrolRow.{EnrolRow}
use Rattle.office_tables.specs.TablesHeld.{HoldsTables}
use Rattle.office_tables.specs.Stored.{keyless_columns}
use Rattle.office_tables.proofs.OrderLemmas.{by_number, columns_shown, read, rising, table_shown}
use Rattle.office_tables.proofs.Queries.{column_less, equal_numbers, equals, passes}
use Rattle.office_tables.proofs.RecordsBack.{enrol_of}
use Rattle.office_tables.proofs.Frames.{held_at}

abbrev pub enrol_terms : List Term
enrol_terms = col 1 1 ∷ col 1 2 ∷ []

abbrev enrol_picked : Row → Row
enrol_picked row = column row 0 ∷ column row 1 ∷ []

enrol_shown : (r : Row) → column r 1 ∷ column r 2 ∷ [] ≡ enrol_picked (keyless_columns r)
enrol_shown r = rw (column_less r 0, column_less r 1) refl

-- ---- SELECT student, exam FROM enrol WHERE student = ?1 ORDER BY exam

abbrev pub enrols_of_text : List ℕ
enrols_of_text = codes "SELECT student, exam FROM enrol WHERE student = ?1 ORDER BY exam"

abbrev pub enrols_of_query : Query
enrols_of_query =
    select_query (inner 2 end) (equals 1 0 ∷ []) enrol_terms (rising enrol_terms (1 ∷ []))

pub enrols_of_means : Means office_schema enrols_of_query enrols_of_text
unfolding understood everything
enrols_of_means = record { names = _; selects = refl; unlisted = refl; plain = (refl, refl) }

-- the rows read from the table: those of one student
module _ (db : Database) (number : ℕ) (t : Tables) (represents : HoldsTables db t) where
  abbrev pub given : Row
  given = Int (pos number) ∷ []

  abbrev pub hers : List EnrolRow
  hers = filter (λ r. r.student == number) t.enrol

  shown : IsPermutation (map (eval_all enrol_terms)
      (matches db.trees (equals 1 0 ∷ []) (inner 2 end) (given ∷ []))) (map enrol_columns hers)
  shown =
      table_shown enrol_columns keyless_columns enrol_picked given 2
      (equals 1 0 ∷ []) enrol_terms enrol_shown
      (λ x. refl) (passes given (equals 0 0 ∷ [])) (λ r.
      ap (λ v. is_true (binary (Compare Eq Binary) v (Int (pos number))) && true) (column_less r 0))
      (λ r. r.student == number) (λ x. equal_numbers x.student number) db.trees t.enrol
      (held_at 2 represents).same

  enrols_of_read : (found : List EnrolRow)
      → IsReadOf enrol_columns 2 given enrols_of_query db.trees found
      → AreListed StudentEnrolsRise hers found
  enrols_of_read found is =
      by_number (λ (x : EnrolRow). x.exam) hers found
      (read enrol_of enrol_columns 2 (λ x. refl) (λ x. refl) (inner 2 end) (equals 1 0 ∷ [])
      enrol_terms (1 ∷ []) (λ (x : EnrolRow). x.exam ∷ []) (λ x. refl) db.trees given hers found
      shown is)

  abbrev pub Answered : Option (Vec EnrolRow Global) → Type 0
  Answered = IsReadAnswer FitsEnrol enrol_columns 2 given enrols_of_query db.trees

  pub enrols_found : (found : Option (Vec EnrolRow Global)) → Answered found
      → AreListedIfFit FitsEnrol StudentEnrolsRise hers found
  enrols_found (Some rows) is = enrols_of_read rows.items is
  enrols_found None (rows, none, answer) = λ fit.
      let same = columns_shown enrol_columns 2 (λ x. refl) (λ x. omega arith) (inner 2 end)
      (equals 1 0 ∷ []) enrol_terms (rising enrol_terms (1 ∷ [])) db.trees given hers rows shown
      answer in
      none same.1 hers fit same.0

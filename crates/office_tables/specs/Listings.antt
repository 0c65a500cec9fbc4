-- The rows of a table that a query's text lists.
use Rattle.std.specs.Prelude.{◌≡◌, ℕ, ◌<◌, ◌≤◌, List, [], ◌∷◌, length, slice_index_or}
use Rattle.std.specs.List.{AllByRecursion}
use Rattle.sqlite_trees.specs.Tree.{rowid}
use Rattle.sqlite_value.specs.declared.keys.Collation.TheVariants.{Binary}
use Rattle.sqlite_value.specs.declared.keys.Key.{Key}
use Rattle.sqlite_value.specs.declared.value.Value.TheVariants.{Null}
use Rattle.sqlite_value.specs.Keys.{ascending}
use Rattle.sqlite_value.specs.Order.{Row, column}
use Rattle.sqlite.specs.Effect.{Database, IsDatabase}
use Rattle.sqlite.specs.Query.{Query, inner, end}
use Rattle.sqlite.specs.Term.{Term, lit, eval_all}
use Rattle.office_tables.specs.declared.version.Version.{Version}
use Rattle.office_tables.specs.Asking.{select_query, Means}
use Rattle.office_tables.specs.Records.{columns_from}
use Rattle.office_tables.specs.Versions.{schema_of}

-- SELECT .. FROM a table WHERE .. ORDER BY ..
abbrev pub one_table : ℕ → List Term → List Term → List (Term × Key) → Query
one_table tree where_ shown order = select_query (inner tree end) where_ shown order

-- under the schema of a version the text lists all rows of a tree, each shown by these terms, in
-- this order
abbrev pub Lists : Version → ℕ → List Term → List (Term × Key) → List ℕ → Type 0
Lists version tree shown order = Means (schema_of version) (one_table tree [] shown order)

-- the columns that a SELECT shows of a row: the values of its terms
abbrev pub selected_columns : List Term → Row → Row
selected_columns shown row = eval_all shown ([] ∷ row ∷ [])

-- ORDER BY the column that is shown at this place
abbrev pub ordered_by : List Term → ℕ → List (Term × Key)
ordered_by shown at = (slice_index_or shown at (lit Null), ascending Binary) ∷ []

-- the first columns are those that the stored row shows, and the next is its number
pub record IsListed (width : ℕ) (show : Row → Row) (stored shown : Row) : Type 0 where
  pub columns : columns_from 0 width shown ≡ show stored
  pub number : column shown width ≡ rowid stored
  pub wide : width ≤ length shown

-- the text lists the whole table, in the order of the rows' numbers
pub record ListsTable (version : Version) (width tree : ℕ) (show : Row → Row) (sql : List ℕ)
    : Type 0 where
  pub terms : List Term
  pub lists : Lists version tree terms (ordered_by terms width) sql
  pub whole : (db : Database) → db.schema ≡ schema_of version → IsDatabase db
      → AllByRecursion (λ r. IsListed width show r (selected_columns terms r)) (db.trees tree)

-- the text lists the whole table so, and one of these columns is the row's number
pub record ListsKeyed (version : Version) (at width tree : ℕ) (show : Row → Row) (sql : List ℕ)
    : Type 0 where
  pub table : ListsTable version width tree show sql
  pub within : at < width
  pub number : (r : Row)
      → column (selected_columns table.terms r) at ≡ column (selected_columns table.terms r) width

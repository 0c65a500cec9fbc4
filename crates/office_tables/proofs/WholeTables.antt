-- A text that lists all rows of a table, each with its number.
use Rattle.std.proofs.lemmas.Grind.{common_steps}
use Rattle.std.proofs.Common.{◌≡◌, ◌+◌, ◌++◌, ℕ, zero, suc, List, [], ◌∷◌, length, Option, Some, None, true, false, sym, ap, ap₂, subst, ◌∙◌, refl, arith, length-append}
use Rattle.std.specs.Prelude.{slice_get}
use Rattle.std.specs.List.{AllByRecursion}
use Rattle.sqlite_schema.specs.declared.schema.Column.{Column}
use Rattle.sqlite_schema.specs.declared.schema.Constraint.{Constraint}
use Rattle.sqlite_schema.specs.declared.schema.Constraint.TheVariants.{Datatype, NotNull}
use Rattle.sqlite_schema.specs.declared.schema.Table.{Table}
use Rattle.sqlite_schema.specs.Names.{is_key}
use Rattle.sqlite_schema.specs.Rules.{passes}
use Rattle.sqlite_trees.proofs.ListLemmas.{all_weaker}
use Rattle.sqlite_value.specs.declared.value.Value.{Value}
use Rattle.sqlite_value.specs.Order.{Row, column}
use Rattle.sqlite.specs.Effect.{Database, IsDatabase}
use Rattle.sqlite.specs.Term.{Term, col, eval_all}
use Rattle.office_tables.specs.Tables.{office_schema, schema_before}
use Rattle.office_tables.specs.declared.version.Version.{Version}
use Rattle.office_tables.specs.declared.version.Version.TheVariants.{One, Two}
use Rattle.office_tables.specs.Stored.{shown_by}
use Rattle.office_tables.specs.Listings.{Lists, ListsTable, IsListed, selected_columns, ordered_by}
use Rattle.office_tables.specs.Records.{columns_from}
use Rattle.office_tables.specs.Versions.{schema_of}
use Rattle.office_tables.proofs.DeleteLemmas.{seen_at, stored_at}
use Rattle.office_tables.proofs.WholeRows.{dropped, rows_keep, rows_long, shift, ten_keep}

-- ---- the rules of a table

-- in this version the rows of the table obey the rules of its columns
abbrev pub Obeys : Version → Table → Type 0
Obeys version table =
    (rule : Constraint) (db : Database) → db.schema ≡ schema_of version → IsDatabase db
    → AllByRecursion (λ r. passes rule (schema_of version) db.trees table r ≡ true)
    (db.trees table.tree)

at_place : (P : Table → Type 0) (at : ℕ) (tables : List Table) (table : Table)
    → slice_get tables at ≡ Some table → AllByRecursion P tables → P table
at_place P at [] table found all = absurd (cc)
at_place P zero (x ∷ xs) table found all = let is : x ≡ table = cc in subst P is all.0
at_place P (suc at) (x ∷ xs) table found all = at_place P at xs table found all.1

-- the tables of both versions
pub in_both : (version : Version) (at : ℕ) (table : Table)
    → slice_get schema_before.tables at ≡ Some table → Obeys version table
in_both version at table found rule db is sound =
    at_place (λ t. AllByRecursion (λ r. passes rule (schema_of version) db.trees t r ≡ true)
    (db.trees t.tree)) at schema_before.tables table found
    (ten_keep rule version db.trees (rows_keep rule version db is sound))

-- those of version 2
pub in_second : (at : ℕ) (table : Table) → slice_get office_schema.tables at ≡ Some table
    → Obeys Two table
in_second at table found rule db is sound =
    at_place (λ t. AllByRecursion (λ r. passes rule office_schema db.trees t r ≡ true)
    (db.trees t.tree)) at office_schema.tables table found (rows_keep rule Two db is sound)

-- ---- the terms

-- n columns, from one on
abbrev pub column_terms : Option ℕ → ℕ → ℕ → List Term
column_terms key at zero = []
column_terms key at (suc n) = col 1 (stored_at key at) ∷ column_terms key (suc at) n

-- all columns, and then the row's number
abbrev pub list_terms : Table → List Term
list_terms table = column_terms table.key 0 (length table.columns) ++ col 1 0 ∷ []

terms_show : (key : Option ℕ) (row : Row) (n at : ℕ)
    → eval_all (column_terms key at n ++ col 1 0 ∷ []) ([] ∷ row ∷ [])
    ≡ columns_from at n (shown_by key row) ++ column row 0 ∷ []
terms_show key row zero at = refl
terms_show key row (suc n) at =
    ap₂ (λ v l. v ∷ l) (seen_at key row at) (terms_show key row n (suc at))

front : (l more : Row) → columns_from 0 (length l) (l ++ more) ≡ l
front [] more = refl
front (v ∷ l) more = ap (λ x. v ∷ x) (shift v (l ++ more) (length l) 0 ∙ front l more)

at_end : (l : Row) (v : Value) → column (l ++ v ∷ []) (length l) ≡ v
at_end [] v = refl
at_end (w ∷ l) v = at_end l v

pub one_listed : (key : Option ℕ) (n : ℕ) (r : Row) → length (shown_by key r) ≡ n
    → IsListed n (shown_by key) r (selected_columns (column_terms key 0 n ++ col 1 0 ∷ []) r)
one_listed key n r long = grind (arith, common_steps, terms_show, dropped, front, at_end, length-append)

shown_long : (key : Option ℕ) (n : ℕ) (row : Row) → length row ≡ 2 + n
    → length (shown_by key row) ≡ n + 1
shown_long (Some k) n [] long = absurd (omega (arith, long))
shown_long (Some k) n (v ∷ []) long = absurd (omega (arith, long))
shown_long (Some k) n (v ∷ w ∷ row) long = omega (arith, long)
shown_long None n [] long = absurd (omega (arith, long))
shown_long None n (v ∷ row) long = omega (arith, long)

-- ---- the table, by the columns before its last

module _ (version : Version) (table : Table) (obeys : Obeys version table) (cols : List Column)
    (c : Column) (is : table.columns ≡ cols ++ c ∷ [])
    (unkeyed : is_key table.key (length cols) ≡ false) (present : c.not_null ≡ true) where
  pub long : (db : Database) → db.schema ≡ schema_of version → IsDatabase db
      → AllByRecursion (λ r. length (shown_by table.key r) ≡ length table.columns)
      (db.trees table.tree)
  long db has sound =
      let wide : length table.columns ≡ length cols + 1 =
      ap length is ∙ length-append cols (c ∷ []) in
      all_weaker _ _ (λ r of. shown_long table.key (length cols) r of ∙ sym wide)
      (db.trees table.tree)
      (rows_long table cols c is unkeyed present (schema_of version) db.trees
      (db.trees table.tree) (obeys Datatype db has sound) (obeys NotNull db has sound))

  abbrev pub lists_table : (sql : List ℕ) → Lists version table.tree (list_terms table)
      (ordered_by (list_terms table) (length table.columns)) sql
      → ListsTable version (length table.columns) table.tree (shown_by table.key) sql
  lists_table sql means = record {
    terms = list_terms table;
    lists = means;
    whole = λ db has sound. all_weaker _ _ (λ r. one_listed table.key (length table.columns) r)
        (db.trees table.tree) (long db has sound);
  }

-- in this version the text lists the table with the rows' numbers, in their order
abbrev pub ListsAll : Version → Table → List ℕ → Type 0
ListsAll version table =
    Lists version table.tree (list_terms table)
    (ordered_by (list_terms table) (length table.columns))

pub in_version : (table : Table) (sql : List ℕ) → ListsAll One table sql → ListsAll Two table sql
    → (version : Version) → ListsAll version table sql
in_version table sql one two One = one
in_version table sql one two Two = two

-- a table of both versions
abbrev pub lists_both : (at : ℕ) (table : Table) → slice_get schema_before.tables at ≡ Some table
    → (cols : List Column) (c : Column) → table.columns ≡ cols ++ c ∷ []
    → is_key table.key (length cols) ≡ false → c.not_null ≡ true → (sql : List ℕ)
    → ListsAll One table sql → ListsAll Two table sql → (version : Version)
    → ListsTable version (length table.columns) table.tree (shown_by table.key) sql
lists_both at table found cols c is unkeyed present sql one two version =
    lists_table version table (in_both version at table found) cols c is unkeyed present sql
    (in_version table sql one two version)

-- The rows of a table, and what the statements that insert them mean.
use Rattle.std.specs.Prelude.{◌≡◌, ◌≢◌, ◌+◌, ◌/◌, ◌++◌, ◌==◌, ◌&&◌, not, ℕ, zero, suc, pred, drop, false, true, List, [], ◌∷◌, map, length, Option, Some, None, slice_get, slice_set, Bool}
use Rattle.std.specs.List.{All, AllByRecursion, list_all}
use Rattle.sqlite_rules.specs.Action.{works}
use Rattle.sqlite_rules.specs.Cast.{cast_row}
use Rattle.sqlite_rules.specs.Edit.{with_rowid}
use Rattle.sqlite_rules.specs.declared.error.Rowids.TheVariants.{Chosen}
use Rattle.sqlite_schema.specs.declared.schema.Keys.TheVariants.{Enforced}
use Rattle.sqlite_schema.specs.declared.schema.Table.{Table}
use Rattle.sqlite_trees.specs.Tree.{Trees, rowid}
use Rattle.sqlite_trees.specs.View.{is_int}
use Rattle.sqlite_value.specs.declared.value.Value.TheVariants.{Null}
use Rattle.sqlite_value.specs.Order.{Row, column}
use Rattle.sqlite.specs.Command.TheVariants.{Insert}
use Rattle.sqlite.specs.Listing.{understood}
use Rattle.sqlite.specs.Source.TheVariants.{Values}
use Rattle.sqlite.specs.Term.{Term, lit, col}
use Rattle.sqlite.proofs.Callers.{IsPlain, command_of}
use Rattle.office_tables.specs.Tables.{office_schema, Tables, all_columns}
use Rattle.office_tables.specs.Stored.{shown_by}

-- a table with no AUTOINCREMENT and no default that reads the time
abbrev pub simple_table : Table → Table
simple_table base =
    record base { stamps = record { places = []; terms = []; formats = [] }; is_counted = false }

-- the trees of all tables but one stay
abbrev pub OtherTreesUnchanged : ℕ → Trees → Trees → Type 0
OtherTreesUnchanged tree old new =
    AllByRecursion (λ (t : Table). t.tree ≢ tree → new t.tree ≡ old t.tree) office_schema.tables

-- ---- terms

-- the next w parameters
abbrev pub next_params : ℕ → ℕ → List Term
next_params zero at = []
next_params (suc w) at = col 0 at ∷ next_params w (suc at)

-- the terms of n rows, each of w parameters
abbrev pub terms_from : (ℕ → List Term) → ℕ → ℕ → ℕ → List Term
terms_from terms w at zero = []
terms_from terms w at (suc n) = terms at ++ terms_from terms w (w + at) n

-- a row of the next w parameters; the table chooses its number if it has no key
abbrev pub row_terms : Option ℕ → ℕ → ℕ → List Term
row_terms None w at = lit Null ∷ next_params w at
row_terms (Some key) w at = col 0 at ∷ lit Null ∷ next_params (pred w) (suc at)

-- a row's columns as a statement inserts them
abbrev pub given_row : Option ℕ → Row → Row
given_row None row = Null ∷ row
given_row (Some key) row = column row 0 ∷ Null ∷ drop 1 row

-- ---- a type of rows

-- where the rows of a type are: the table's place in the schema, and their place in the tables
pub record TableOf (R : Type 0) : Type 0 where
  pub at : ℕ
  pub table : Table
  pub columns_of : R → Row
  pub rows : Tables → List R
  pub with_rows : List R → Tables → Tables

-- the tables with one more row
abbrev pub with_row : {R : Type 0} → TableOf R → R → Tables → Tables
with_row it row t = it.with_rows (row ∷ it.rows t) t

-- the row obeys the condition, if it is limited by one
abbrev pub row_fits : {R : Type 0} → Bool → (R → Type 0) → R → Type 0
row_fits false P x = Unit {0}
row_fits true P x = P x

-- all rows obey the condition
abbrev pub rows_fit : {R X : Type 0} → Bool → (R → Type 0) → (X → R) → List X → Type 0
rows_fit false P row_of xs = Unit {0}
rows_fit true P row_of xs = All (λ x. P (row_of x)) xs

-- this text inserts n rows, each of w columns
pub record IsInsert (at : ℕ) (key : Option ℕ) (w n : ℕ) (sql : List ℕ) : Type 0 where
  pub is : command_of (understood office_schema sql)
      ≡ Insert at (Values (terms_from (row_terms key w) w 0 n) (suc w))
  pub plain : IsPlain (understood office_schema sql)
  pub many : length (terms_from (row_terms key w) w 0 n) / suc w ≡ n

-- no other table of the list has this tree
abbrev pub has_own_tree : ℕ → ℕ → List Table → Bool
has_own_tree tree at [] = true
has_own_tree tree zero (t ∷ tables) = list_all (λ (other : Table). not (other.tree == tree)) tables
has_own_tree tree (suc at) (t ∷ tables) = not (t.tree == tree) && has_own_tree tree at tables

-- this table has this place in the schema and a tree of its own, and a change of its rows causes no
-- other change
pub record IsTable (at : ℕ) (table : Table) : Type 0 where
  pub found : slice_get office_schema.tables at ≡ Some (simple_table table)
  pub own_tree : has_own_tree table.tree at office_schema.tables ≡ true
  pub quiet : (taken news : List Row) → works office_schema Enforced 0 table.tree taken news ≡ []

-- the table stores rows of w such columns, and gives back what it stores
pub record Stores {X : Type 0} (at : ℕ) (table : Table) (columns_of : X → Row) (w : ℕ)
    : Type 0 where
  pub is : IsTable at table
  pub wide : (x : X) → length (columns_of x) ≡ w
  pub filled : (rest : ℕ) × (w ≡ suc rest)
  pub int : (stored : List Row) (x : X)
      → is_int (rowid (with_rowid Chosen stored (given_row table.key (columns_of x)))) ≡ true
  pub shown : (stored : List Row) (x : X)
      → shown_by table.key (with_rowid Chosen stored (given_row table.key (columns_of x)))
      ≡ columns_of x
  pub cast : (x : X) → cast_row (simple_table table) (given_row table.key (columns_of x))
      ≡ given_row table.key (columns_of x)

-- what an insert needs: the rows of this type are those of their table and of no other, and these
-- texts insert 1 and n of them
pub record Inserts {R : Type 0} (it : TableOf R) (w n : ℕ) (text long_text : List ℕ) : Type 0 where
  pub stores : Stores it.at it.table it.columns_of w
  pub listed : (t : Tables)
      → slice_get (all_columns t) it.at ≡ Some (map it.columns_of (it.rows t))
  pub changed : (rows : List R) (t : Tables)
      → all_columns (it.with_rows rows t) ≡ slice_set (all_columns t) it.at (map it.columns_of rows)
  pub same : (t : Tables) → it.with_rows (it.rows t) t ≡ t
  pub read : (rows : List R) (t : Tables) → it.rows (it.with_rows rows t) ≡ rows
  pub over : (rows more : List R) (t : Tables)
      → it.with_rows more (it.with_rows rows t) ≡ it.with_rows more t
  pub one : IsInsert it.at it.table.key w 1 text
  pub several : IsInsert it.at it.table.key w n long_text

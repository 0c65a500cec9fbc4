-- All tables hold their rows, and still do after one of them has changed.
use Rattle.std.proofs.lemmas.Grind.{common_steps}
use Rattle.std.proofs.Common.{◌≡◌, ◌≢◌, ◌++◌, ℕ, zero, suc, List, [], ◌∷◌, length, map, not, ◌==◌, Some, true, arith, sym, subst}
use Rattle.std.specs.Prelude.{slice_get, slice_set}
use Rattle.std.specs.List.{AllByRecursion, list_all}
use Rattle.std.proofs.lemmas.Bool.{and_parts}
use Rattle.std.proofs.lemmas.Bool.Decides.{nat_tests}
use Rattle.std.proofs.lemmas.List.Sorted.{IsPermutation-refl}
use Rattle.sqlite_value.specs.Order.{Row}
use Rattle.sqlite_trees.specs.Tree.{Trees}
use Rattle.sqlite_schema.specs.declared.schema.Table.{Table}
use Rattle.sqlite.specs.Effect.{Database}
use Rattle.office_tables.specs.Tables.Draft.{night_draft_table}
use Rattle.office_tables.specs.Tables.ShareStudent.{night_share_table}
use Rattle.office_tables.specs.Tables.{office_schema, schema_before, Tables, all_columns, columns_in}
use Rattle.office_tables.specs.Inserting.{IsTable, OtherTreesUnchanged, has_own_tree, simple_table}
use Rattle.office_tables.specs.TablesHeld.{HoldsTables, HoldsTablesIn}
use Rattle.office_tables.specs.Stored.{HoldAll, Holds, shown_by}
use Rattle.office_tables.specs.declared.version.Version.{Version}

-- a statement has changed one table, which now holds these rows
pub record OneShown (table : Table) (rows : List Row) (old new : Database) : Type 0 where
  pub schema : new.schema ≡ office_schema
  pub others : OtherTreesUnchanged table.tree old.trees new.trees
  pub holds : Holds (shown_by table.key) rows (new.trees table.tree)

pub still : (show : Row → Row) (rows old new : List Row) → new ≡ old → Holds show rows old
    → Holds show rows new
still show rows old new same = subst (Holds show rows) (sym same)

-- a table with no row shows none
pub holds_none : (show : Row → Row) (stored : List Row) → stored ≡ [] → Holds show [] stored
holds_none show stored none =
    rw none (record { rowids = record { ints = tt; apart = tt }; same = IsPermutation-refl _ })

-- ---- a list of tables

-- the table at this place of a list holds its rows
abbrev pub HoldsAt : ℕ → List Table → List (List Row) → Trees → Type 0
HoldsAt at [] rows trees = Unit {0}
HoldsAt at (table ∷ tables) [] trees = Unit {0}
HoldsAt zero (table ∷ tables) (own ∷ rows) trees =
    Holds (shown_by table.key) own (trees table.tree)
HoldsAt (suc at) (table ∷ tables) (own ∷ rows) trees = HoldsAt at tables rows trees

at_place : (tables : List Table) (rows : List (List Row)) (trees : Trees) (at : ℕ)
    → HoldAll tables rows trees → HoldsAt at tables rows trees
at_place [] rows trees at held = tt
at_place (x ∷ tables) [] trees at held = tt
at_place (x ∷ tables) (own ∷ rows) trees zero held = held.0
at_place (x ∷ tables) (own ∷ rows) trees (suc at) held = at_place tables rows trees at held.1

pub held_at : {version : Version} {db : Database} {t : Tables} (at : ℕ)
    → HoldsTablesIn version db t → HoldsAt at schema_before.tables (columns_in version t) db.trees
held_at {version} {db} {t} at h =
    at_place schema_before.tables (columns_in version t) db.trees at h.rows

differ : (m n : ℕ) → not (m == n) ≡ true → m ≢ n
differ m n h e = grind (arith, nat_tests)

module _ (tree : ℕ) (old new : Trees) where
  stay : (tables : List Table) (rows : List (List Row))
      → list_all (λ (other : Table). not (other.tree == tree)) tables ≡ true
      → AllByRecursion (λ (t : Table). t.tree ≢ tree → new t.tree ≡ old t.tree) tables
      → HoldAll tables rows old → HoldAll tables rows new
  stay [] [] apart others held = tt
  stay [] (own ∷ rows) apart others held = held
  stay (x ∷ xs) [] apart others held = held
  stay (x ∷ xs) (own ∷ rows) apart others held =
      let parts = and_parts _ _ apart in (
        still _ own _ _ (others.0 (differ x.tree tree parts.0)) held.0,
        stay xs rows parts.1 others.1 held.1,
      )

module _ (table : Table) (own : List Row) (old new : Trees)
    (held : Holds (shown_by table.key) own (new table.tree)) where
  changed : (at : ℕ) (tables : List Table) (rows : List (List Row))
      → slice_get tables at ≡ Some table → has_own_tree table.tree at tables ≡ true
      → AllByRecursion (λ (t : Table). t.tree ≢ table.tree → new t.tree ≡ old t.tree) tables
      → HoldAll tables rows old → HoldAll tables (slice_set rows at own) new
  changed at [] rows found alone others all = absurd (cc)
  changed zero (x ∷ xs) [] found alone others all = absurd all
  changed zero (x ∷ xs) (r ∷ rows) found alone others all =
      let is : x ≡ table = cc in (
        subst (λ (y : Table). Holds (shown_by y.key) own (new y.tree)) (sym is) held,
        stay table.tree old new xs rows alone others.1 all.1,
      )
  changed (suc at) (x ∷ xs) [] found alone others all = absurd all
  changed (suc at) (x ∷ xs) (r ∷ rows) found alone others all =
      let parts = and_parts _ _ alone in (
        still _ r _ _ (others.0 (differ x.tree table.tree parts.0)) all.0,
        changed at xs rows found parts.1 others.1 all.1,
      )

own_held : (table : Table) (own : List Row) (trees : Trees) (at : ℕ) (tables : List Table)
    (rows : List (List Row)) → slice_get tables at ≡ Some table → slice_get rows at ≡ Some own
    → HoldAll tables rows trees → Holds (shown_by table.key) own (trees table.tree)
own_held table own trees at [] rows found read all = absurd (cc)
own_held table own trees at (x ∷ xs) [] found read all = absurd (cc)
own_held table own trees zero (x ∷ xs) (r ∷ rows) found read all = grind (arith, common_steps)
own_held table own trees (suc at) (x ∷ xs) (r ∷ rows) found read all =
    own_held table own trees at xs rows found read all.1

-- the tables of two lists
module _ (trees : Trees) where
  pub both_held : (tables more : List Table) (rows others : List (List Row))
      → HoldAll tables rows trees → HoldAll more others trees
      → HoldAll (tables ++ more) (rows ++ others) trees
  both_held [] more [] others held last = last
  both_held (x ∷ tables) more (r ∷ rows) others held last =
      (held.0, both_held tables more rows others held.1 last)
  both_held _ more _ others held last = absurd held

  parts_held : (tables more : List Table) (rows others : List (List Row))
      → length tables ≡ length rows → HoldAll (tables ++ more) (rows ++ others) trees
      → HoldAll tables rows trees × HoldAll more others trees
  parts_held [] more [] others long held = (tt, held)
  parts_held (x ∷ tables) more (r ∷ rows) others long held =
      let parts = parts_held tables more rows others (omega (arith, long)) held.1 in
      ((held.0, parts.0), parts.1)
  parts_held _ more _ others long held = absurd (omega (arith, long))

-- the tables are as they were
pub all_still : (tables : List Table) (rows : List (List Row)) (old new : Trees)
    → AllByRecursion (λ (t : Table). new t.tree ≡ old t.tree) tables
    → HoldAll tables rows old → HoldAll tables rows new
all_still [] [] old new same held = tt
all_still [] (own ∷ rows) old new same held = held
all_still (x ∷ tables) [] old new same held = held
all_still (x ∷ tables) (own ∷ rows) old new same held =
    (still _ own _ _ same.0 held.0, all_still tables rows old new same.1 held.1)

-- ---- the tables of an office

-- those of the amounts over night
abbrev pub night_tables : List Table
night_tables = night_draft_table ∷ night_share_table ∷ []

-- the database has the twelve tables, and they hold these rows
pub record AllShown (all : List (List Row)) (db : Database) : Type 0 where
  pub schema : db.schema ≡ office_schema
  pub hold : HoldAll office_schema.tables all db.trees

pub all_shown : (db : Database) (t : Tables) → HoldsTables db t → AllShown (all_columns t) db
all_shown db t h = grind (arith, common_steps)

pub tables_held : (db : Database) (t : Tables) → AllShown (all_columns t) db → HoldsTables db t
tables_held db t shown = grind (arith, common_steps)

module _ {at : ℕ} {table : Table} (is : IsTable at table) (all : List (List Row)) where
  -- the rows of one table
  pub own_shown : (own : List Row) (db : Database) → slice_get all at ≡ Some own → AllShown all db
      → Holds (shown_by table.key) own (db.trees table.tree)
  own_shown own db there shown =
      own_held (simple_table table) own db.trees at office_schema.tables all is.found there shown.hold

  -- one table has changed
  pub shown_next : (own : List Row) (old new : Database) → AllShown all old
      → OneShown table own old new → AllShown (slice_set all at own) new
  shown_next own old new shown one = record {
    schema = one.schema;
    hold = changed (simple_table table) own old.trees new.trees one.holds at office_schema.tables all
        is.found is.own_tree one.others shown.hold;
  }

none_held : (tables : List Table) (trees : Trees)
    → AllByRecursion (λ (t : Table). trees t.tree ≡ []) tables
    → HoldAll tables (map (λ _. []) tables) trees
none_held [] trees empty = tt
none_held (t ∷ tables) trees empty =
    (holds_none (shown_by t.key) (trees t.tree) empty.0, none_held tables trees empty.1)

-- tables without rows
pub none_shown : (db : Database) → db.schema ≡ office_schema
    → AllByRecursion (λ (t : Table). db.trees t.tree ≡ []) office_schema.tables
    → AllShown (map (λ _. []) office_schema.tables) db
none_shown db schema empty =
    record { schema = schema; hold = none_held office_schema.tables db.trees empty }

-- The tables during the migration from version 1 to version 2.
use Rattle.std.specs.Prelude.{◌==◌, ◌||◌, if◌then◌else◌, []}
use Rattle.sqlite_trees.specs.Tree.{Trees}
use Rattle.sqlite.specs.Effect.{Database}
use Rattle.office_tables.specs.Tables.{office_schema, Tables}
use Rattle.office_tables.specs.Schema.{HasRows}
use Rattle.office_tables.specs.TablesHeld.{HoldsOldTables}

-- the same trees, without rows in the tables of amounts over night
abbrev pub without_nights : Trees → Trees
without_nights trees tree = if (tree == 15) || (tree == 16) then [] else trees tree

-- the database has all tables of version 2, with the rows of version 1 and none in the two new ones
pub record IsWidened (t : Tables) (db : Database) : Type 0 where
  pub before : Database
  pub represents : HoldsOldTables before t
  pub widened : HasRows office_schema (without_nights before.trees) db

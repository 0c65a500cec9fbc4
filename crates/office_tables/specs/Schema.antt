-- The schema and the rows after new tables.
use Rattle.std.specs.Prelude.{◌≡◌, ℕ, false, List, [], ◌∷◌, Ok}
use Rattle.std.specs.Borrow.{Bor}
use Rattle.std.specs.List.{AllByRecursion}
use Rattle.sqlite.specs.Change.{created, next_tree}
use Rattle.sqlite.specs.Command.TheVariants.{CreateTable}
use Rattle.sqlite.specs.Compile.{table_defined_by}
use Rattle.sqlite.specs.Does.{lacks_sequence}
use Rattle.sqlite.specs.Effect.{Database}
use Rattle.sqlite.specs.Listing.{understood}
use Rattle.sqlite.proofs.Callers.{IsPlain, command_of, statement_of}
use Rattle.sqlite_trees.specs.Tree.{Trees}
use Rattle.sqlite_schema.specs.declared.schema.Schema.{Schema}
use Rattle.sqlite_schema.specs.declared.schema.Table.{Table}

-- of a file without a table
abbrev pub no_schema : Schema
no_schema = record { tables = []; indexes = []; views = [] }

-- the schema after these tables have been created
abbrev pub created_all : Schema → List Table → Schema
created_all schema [] = schema
created_all schema (table ∷ tables) = created_all (created schema table) tables

-- the tables of this schema, with the rows of these trees, and no other tables
pub record HasRows (schema : Schema) (trees : Trees) (db : Database) : Type 0 where
  pub schema_is : db.schema ≡ schema
  pub rows : AllByRecursion (λ t. db.trees t.tree ≡ trees t.tree) schema.tables

-- the tables of this schema, without rows, and no other tables
abbrev pub IsBlank : Schema → Database → Type 0
IsBlank schema = HasRows schema (λ _. [])

-- under this schema the text creates this table, and nothing else
pub record Creates (schema : Schema) (table : Table) (sql : List ℕ) : Type 0 where
  pub command : command_of (understood schema sql) ≡ CreateTable
  pub whole : statement_of sql (understood schema sql) ≡ sql
  pub defined : table_defined_by sql ≡ Ok (record table { tree = 0 })
  pub plain : IsPlain (understood schema sql)
  pub uncounted : lacks_sequence (created schema table) ≡ false

-- after this schema each text creates its table, whose tree has no row
abbrev pub CreateAll : Trees → Schema → List Table → List (Bor (List ℕ)) → Type 0
CreateAll trees schema [] [] = Unit {0}
CreateAll trees schema [] (text ∷ texts) = ⊥
CreateAll trees schema (table ∷ tables) [] = ⊥
CreateAll trees schema (table ∷ tables) (text ∷ texts) =
    Creates schema table text.now × (trees (next_tree schema) ≡ [])
    × CreateAll trees (created schema table) tables texts

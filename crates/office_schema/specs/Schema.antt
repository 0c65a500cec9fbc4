-- Columns and tables as SQLite keeps them, by what the code declares of a table; and their indexes.
use Rattle.std.specs.Prelude.{◌≡◌, ℕ, true, false, List, [], ◌∷◌, map, Some, None, Option}
use Rattle.std.specs.Borrow.{Bor}
use Rattle.sqlite_value.specs.declared.keys.Collation.TheVariants.{Binary}
use Rattle.sqlite_value.specs.declared.keys.Order.{Order}
use Rattle.sqlite_value.specs.declared.value.Value.TheVariants.{Null}
use Rattle.sqlite_value.specs.Keys.{plain}
use Rattle.sqlite_schema.specs.declared.schema.Column.{Column}
use Rattle.sqlite_schema.specs.declared.schema.Index.{Index}
use Rattle.sqlite_schema.specs.declared.schema.Kind.{Kind}
use Rattle.sqlite_schema.specs.declared.schema.Kind.TheVariants.{Integer, Blob}
use Rattle.sqlite_schema.specs.declared.schema.Table.{Table}
use Rattle.office_schema.specs.declared.parts.Declared.{Declared}
use Rattle.office_schema.specs.declared.parts.TableKey.{TableKey}
use Rattle.office_schema.specs.declared.parts.TableKey.TheVariants.{Number, Pair, PairAndTriple}

-- ---- columns and tables

-- a column of a kind, without a default; it takes only values of this kind, and no NULL
abbrev pub column_of : Kind → List ℕ → Column
column_of kind name = record {
  name = name;
  kind = kind;
  is_strict = true;
  not_null = true;
  default = Null;
  collation = Binary;
}

-- a column of whole numbers
abbrev pub int : List ℕ → Column
int = column_of Integer

-- a column of bytes
abbrev pub blob : List ℕ → Column
blob = column_of Blob

-- a table of plain rows, without foreign keys, checks or triggers
abbrev pub table_of : List ℕ → ℕ → List Column → Option ℕ → List ℕ → List (List ℕ)
    → List Order → Table
table_of name tree columns key primary uniques orders = record {
  name = name;
  tree = tree;
  columns = columns;
  key = key;
  primary = primary;
  uniques = uniques;
  orders = orders;
  checks = [];
  references = [];
  computed = [];
  stamps = record { places = []; terms = []; formats = [] };
  is_counted = false;
}

-- the first column is the key, and the row's number
abbrev pub keyed_table : List ℕ → ℕ → List Column → Table
keyed_table name tree columns = table_of name tree columns (Some 0) (0 ∷ []) [] []

-- the first two columns are the key
abbrev pub paired_table : List ℕ → ℕ → List Column → Table
paired_table name tree columns =
    table_of name tree columns None (1 ∷ 2 ∷ []) ((1 ∷ 2 ∷ []) ∷ []) (plain ∷ [])

-- the first two columns are the key, and no two rows agree in the next three
abbrev pub seated_table : List ℕ → ℕ → List Column → Table
seated_table name tree columns = table_of name tree columns None (1 ∷ 2 ∷ [])
    ((1 ∷ 2 ∷ []) ∷ (3 ∷ 4 ∷ 5 ∷ []) ∷ []) (plain ∷ plain ∷ [])

-- ---- a table by its key, and the key of a table

-- the columns of these names and kinds, in their order
abbrev pub columns_of : List (Bor (List ℕ) × Kind) → List Column
columns_of = map (λ column. column_of column.1 column.0.now)

-- the table with this key, name, tree and columns
abbrev pub table_by : TableKey → List ℕ → ℕ → List Column → Table
table_by Number = keyed_table
table_by Pair = paired_table
table_by PairAndTriple = seated_table

-- the table that the code declares
abbrev pub declared_table : Declared → Table
declared_table d = table_by d.key d.name.now d.tree (columns_of d.columns.now)

-- a table has this key, and no other
abbrev pub HasKey : TableKey → Table → Type 0
HasKey Number t =
    (t.key ≡ Some 0) × (t.primary ≡ 0 ∷ []) × (t.uniques ≡ []) × (t.orders ≡ [])
HasKey Pair t =
    (t.key ≡ None) × (t.primary ≡ 1 ∷ 2 ∷ []) × (t.uniques ≡ (1 ∷ 2 ∷ []) ∷ [])
    × (t.orders ≡ plain ∷ [])
HasKey PairAndTriple t =
    (t.key ≡ None) × (t.primary ≡ 1 ∷ 2 ∷ [])
    × (t.uniques ≡ (1 ∷ 2 ∷ []) ∷ (3 ∷ 4 ∷ 5 ∷ []) ∷ []) × (t.orders ≡ plain ∷ plain ∷ [])

-- ---- the tables

-- the index that SQLite creates for a key of a table
abbrev pub index_of : List ℕ → ℕ → ℕ → List ℕ → Index
index_of name tree table columns = record {
  name = name;
  tree = tree;
  table = table;
  columns = columns;
  order = plain;
  is_unique = true;
}

-- The table meta: its schema, its columns, and its one row as it is found.
use Rattle.std.specs.Prelude.{◌≡◌, ◌≢◌, ◌≤◌, ℕ, pos, Bool, List, [], ◌∷◌, length, codes, Option, None, Some, if◌then◌else◌}
use Rattle.sqlite_value.specs.declared.value.Value.TheVariants.{Blob, Int}
use Rattle.sqlite_value.specs.Order.{Row}
use Rattle.sqlite_schema.specs.declared.schema.Table.{Table}
use Rattle.office_schema.specs.Schema.{blob, int, keyed_table}
use Rattle.office_tables.specs.declared.tables.meta.MetaRow.{MetaRow}
use Rattle.office_tables.specs.declared.version.Version.{Version}
use Rattle.office_tables.specs.declared.version.Version.TheVariants.{One, Two}
use Rattle.office_tables.specs.Records.{columns_from}
use Rattle.office_tables.specs.Stored.{keyed_columns, Holds}

-- one row: the schema's version, whether anything is published, and the session's text
abbrev pub meta_table : Table
meta_table = keyed_table (codes "meta") 0
    (int (codes "id") ∷ int (codes "version") ∷ int (codes "published") ∷
    blob (codes "instance") ∷ [])

-- the one row about the office; the instance is a canonical text, or empty before a load
pub record Meta : Type 0 where
  pub published : Bool
  pub instance : List ℕ

-- a boolean, as the file stores it
abbrev pub flag : Bool → ℕ
flag b = if b then 1 else 0

-- a version's number, as the table has it
abbrev pub number_of : Version → ℕ
number_of One = 1
number_of Two = 2

-- the columns of the row about the office: its key 0 and the version of the schema come first
abbrev pub meta_columns : Version → Meta → Row
meta_columns version r =
    Int (pos 0) ∷ Int (pos (number_of version)) ∷ Int (pos (flag r.published)) ∷
    Blob r.instance ∷ []

-- the row about the office, of the program's row
abbrev pub meta_from : MetaRow → Meta
meta_from r = record { published = r.published; instance = r.instance.items }

-- `Some`: the first columns are those of this row. `None`: if there are enough, they are those of
-- no row about the office
abbrev pub IsReadMeta : Version → Row → Option MetaRow → Type 0
IsReadMeta version row (Some read) = columns_from 0 4 row ≡ meta_columns version (meta_from read)
IsReadMeta version row None =
    4 ≤ length row → (m : Meta) → columns_from 0 4 row ≢ meta_columns version m

-- `Some`: the table holds exactly this row. `None`: it doesn't hold exactly one such row
abbrev pub IsFoundMeta : Version → List Row → Option MetaRow → Type 0
IsFoundMeta version stored (Some found) =
    Holds keyed_columns (meta_columns version (meta_from found) ∷ []) stored
IsFoundMeta version stored None =
    (m : Meta) → Holds keyed_columns (meta_columns version m ∷ []) stored → ⊥

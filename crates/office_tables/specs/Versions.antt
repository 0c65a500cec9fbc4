-- The two versions of an office's file.
use Rattle.std.specs.Prelude.{◌≡◌, ◌≢◌, Option, None, Some}
use Rattle.sqlite_schema.specs.declared.schema.Schema.{Schema}
use Rattle.office_tables.specs.Tables.{office_schema, schema_before}
use Rattle.office_tables.specs.declared.version.Version.{Version}
use Rattle.office_tables.specs.declared.version.Version.TheVariants.{One, Two}

-- the tables of a version
abbrev pub schema_of : Version → Schema
schema_of One = schema_before
schema_of Two = office_schema

-- `Some`: the schema is that of this version. `None`: it is that of neither
abbrev pub IsVersionOf : Schema → Option Version → Type 0
IsVersionOf schema (Some version) = schema ≡ schema_of version
IsVersionOf schema None = (version : Version) → schema ≢ schema_of version

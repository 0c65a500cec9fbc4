-- Amounts over night. In version 2 those of drafts and of students have tables of their own; in
-- version 1 there is no such table, and each amount is 0.
use Rattle.std.specs.Prelude.{◌≡◌, ℕ, zero, suc, pos, List, [], ◌∷◌, map}
use Rattle.std.specs.List.{AllByRecursion}
use Rattle.sqlite_value.specs.declared.value.Value.TheVariants.{Int}
use Rattle.sqlite_value.specs.Order.{Row}
use Rattle.office_tables.specs.declared.nights.NightRow.{NightRow}
use Rattle.office_tables.specs.declared.version.Version.{Version}
use Rattle.office_tables.specs.declared.version.Version.TheVariants.{One, Two}
use Rattle.office_tables.specs.Records.{IsNarrow}
use Rattle.office_tables.specs.Stored.{Holds, keyed_columns}

-- the columns of a table of amounts over night: the number of a draft or a student, and the amount
abbrev pub night_columns : NightRow → Row
night_columns r = Int (pos r.number) ∷ Int (pos r.night) ∷ []

-- a number has 32 bits; the amount may have 64
abbrev pub FitsNight : NightRow → Type 0
FitsNight r = IsNarrow r.number

-- the columns of a row that is read from only the first table: its amount over night is 0. A row
-- with another amount is never read so, and has no columns here
abbrev pub bare_columns : ℕ → Row → Row
bare_columns zero columns = columns
bare_columns (suc night) columns = []

-- the table of amounts over night has these rows; in version 1 there is none, and each amount is 0
abbrev pub HoldsNights : {X : Type 0} → Version → (X → Row) → (X → ℕ) → List X → List Row → Type 0
HoldsNights One nights_of night rows stored = AllByRecursion (λ x. night x ≡ 0) rows
HoldsNights Two nights_of night rows stored = Holds keyed_columns (map nights_of rows) stored

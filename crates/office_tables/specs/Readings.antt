-- The rows that are read from a database if only its schema is known.
use Rattle.std.specs.Prelude.{◌≡◌, ◌≢◌, ◌<◌, ◌<ℤ◌, ℕ, ℤ, ◌≤◌, List, map, length, None, Some, Option, Vec, IfSome, IsPermutation}
use Rattle.std.specs.List.{AllByRecursion, Contains}
use Rattle.std.specs.declared.alloc.Global.{Global}
use Rattle.sqlite_trees.specs.Tree.{IsAscending, Trees}
use Rattle.sqlite_value.specs.declared.value.Value.{Value}
use Rattle.sqlite_value.specs.declared.value.Value.TheVariants.{Int}
use Rattle.sqlite_value.specs.Order.{Row, column}
use Rattle.sqlite.specs.Query.{Query, IsAnswer}
use Rattle.office_tables.specs.Records.{columns_from}

-- a column holds integers, each below those of all later rows
abbrev pub ColumnRises : ℕ → List Row → Type 0
ColumnRises at rows =
    (numbers : List ℤ) × (map (λ r. column r at) rows ≡ map Int numbers)
    × IsAscending (λ a b. a <ℤ b) numbers

-- `Some`: the value is this number, greater than the last. `None`: it isn't a number greater than
-- the last
abbrev pub IsNext : Value → Option ℤ → Option ℤ → Type 0
IsNext value last (Some number) = (value ≡ Int number) × IfSome last (λ before. before <ℤ number)
IsNext value last None =
    (number : ℤ) → value ≡ Int number → IfSome last (λ before. before <ℤ number) → ⊥

-- `Some`: the first columns of the rows are those of these typed rows. `None`: if the rows are wide
-- enough, their first columns are not those of any typed rows that fit
abbrev pub IsRead : {X : Type 0} → (X → Type 0) → (X → Row) → ℕ → List Row
    → Option (Vec X Global) → Type 0
IsRead fits row_of width rows (Some made) = map row_of made.items ≡ map (columns_from 0 width) rows
IsRead {X} fits row_of width rows None =
    AllByRecursion (λ r. width ≤ length r) rows → (made : List X) → AllByRecursion fits made
    → IsPermutation (map (columns_from 0 width) rows) (map row_of made) → ⊥

-- if the row is wide enough, it is that of no typed row that fits
abbrev pub IsUnread : {X : Type 0} → (X → Type 0) → (X → Row) → ℕ → Row → Type 0
IsUnread {X} fits row_of width row =
    width ≤ length row → (made : X) → fits made → row_of made ≢ columns_from 0 width row

-- `Some`: the first columns of the rows are those of these typed rows. `None`: one of the rows is
-- that of no typed row that fits
abbrev pub IsGathered : {X : Type 0} → (X → Type 0) → (X → Row) → ℕ → List Row
    → Option (Vec X Global) → Type 0
IsGathered fits row_of width rows (Some made) =
    map row_of made.items ≡ map (columns_from 0 width) rows
IsGathered fits row_of width rows None =
    (row : Row) × Contains rows row × IsUnread fits row_of width row

-- the rows of an answer are read so, in its order
abbrev pub IsReadAnswer : {X : Type 0} → (X → Type 0) → (X → Row) → ℕ → Row → Query → Trees
    → Option (Vec X Global) → Type 0
IsReadAnswer fits row_of width params q trees found =
    (rows : List Row) × IsRead fits row_of width rows found × IsAnswer q trees params rows

-- `Some`: the column has this value, in this form. `None`: if the row has the column, it has no
-- value in this form
abbrev pub IsColumn : {X : Type 0} → (X → Value) → Row → ℕ → Option X → Type 0
IsColumn value row at (Some x) = column row at ≡ value x
IsColumn {X} value row at None = at < length row → (x : X) → column row at ≢ value x

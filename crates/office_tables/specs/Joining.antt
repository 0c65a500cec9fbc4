-- The rows found in two tables if the rows of both have the same numbers.
use Rattle.std.specs.Prelude.{◌≡◌, ◌≢◌, ℕ, pos, List, [], ◌∷◌, map, Option, Some, None, IfSome, Vec}
use Rattle.std.specs.List.{AllByRecursion}
use Rattle.std.specs.declared.alloc.Global.{Global}
use Rattle.sqlite.specs.Query.{Query}
use Rattle.sqlite_trees.specs.Tree.{Trees}
use Rattle.sqlite_value.specs.declared.value.Value.TheVariants.{Int}
use Rattle.sqlite_value.specs.Order.{Row, column}
use Rattle.office_tables.specs.Asking.{IsReadOf}
use Rattle.office_tables.specs.declared.nights.NightRow.{NightRow}
use Rattle.office_tables.specs.declared.version.Version.{Version}
use Rattle.office_tables.specs.Finders.{IsFound}
use Rattle.office_tables.specs.Nights.{bare_columns, night_columns, FitsNight, HoldsNights}
use Rattle.office_tables.specs.Readings.{ColumnRises}
use Rattle.office_tables.specs.Records.{IsNarrow}
use Rattle.office_tables.specs.Stored.{Holds, keyed_columns}

-- `Some`: the rows have this property. `None`: no rows that fit have it
abbrev pub AreFound : {X : Type 0} → (X → Type 0) → (List X → Type 0) → Option (Vec X Global)
    → Type 0
AreFound fits Have (Some found) = Have found.items
AreFound {X} fits Have None = (rows : List X) → AllByRecursion fits rows → Have rows → ⊥

-- `Some`: the rows with the amounts of their numbers, in this order. `None`: the numbers differ
abbrev pub AreJoined : {X : Type 0} → (X → Row) → (X → Row) → (X → ℕ) → List X → List NightRow
    → Option (Vec X Global) → Type 0
AreJoined columns_of nights_of number rows nights (Some made) =
    (map columns_of made.items ≡ map columns_of rows)
    × (map nights_of made.items ≡ map night_columns nights)
AreJoined columns_of nights_of number rows nights None =
    map number rows ≢ map (λ (n : NightRow). n.number) nights

-- both lists joined; `None` if either of them is `None`
abbrev pub IsJoined : {X : Type 0} → (X → Row) → (X → Row) → (X → ℕ) → Option (Vec X Global)
    → Option (Vec NightRow Global) → Option (Vec X Global) → Type 0
IsJoined columns_of nights_of number None nights found = found ≡ None
IsJoined columns_of nights_of number (Some rows) None found = found ≡ None
IsJoined columns_of nights_of number (Some rows) (Some nights) found =
    AreJoined columns_of nights_of number rows.items nights.items found

-- the rows of a table of amounts over night, in the order of their numbers
abbrev pub AreNights : List Row → Option (Vec NightRow Global) → Type 0
AreNights stored found =
    IsFound FitsNight night_columns keyed_columns stored found
    × IfSome found (λ nights. ColumnRises 0 (map night_columns nights.items))

-- the rows joined with those of a table of amounts over night
abbrev pub IsJoinedWith : {X : Type 0} → (X → Row) → (X → Row) → (X → ℕ) → Option (Vec X Global)
    → List Row → Option (Vec X Global) → Type 0
IsJoinedWith columns_of nights_of number rows stored found =
    (nights : Option (Vec NightRow Global)) × AreNights stored nights
    × IsJoined columns_of nights_of number rows nights found

-- the rows of the first query's answer, in its order, with the amounts of the second's
pub record IsReadWith {X : Type 0} (shown columns_of nights_of : X → Row) (width : ℕ)
    (q nights_q : Query) (trees : Trees) (found : List X) : Type 0 where
  pub rows : List X
  pub nights : List NightRow
  pub first : IsReadOf shown width [] q trees rows
  pub second : IsReadOf night_columns 2 [] nights_q trees nights
  pub columns : map columns_of found ≡ map columns_of rows
  pub amounts : map nights_of found ≡ map night_columns nights

-- the rows are stored in two tables; in version 1 in one
pub record HaveRows {X : Type 0} (version : Version) (columns_of nights_of : X → Row)
    (night : X → ℕ) (stored nights_stored : List Row) (rows : List X) : Type 0 where
  pub first : Holds keyed_columns (map columns_of rows) stored
  pub second : HoldsNights version nights_of night rows nights_stored

-- a row that is read from only the first table has an amount over night of 0; each row has a copy
-- with that amount
pub record NightSplit {X : Type 0} (fits : X → Type 0) (shown columns_of nights_of : X → Row)
    (number night : X → ℕ) : Type 0 where
  pub shown_is : (x : X) → shown x ≡ bare_columns (night x) (columns_of x)
  pub number_is : (x : X) → column (columns_of x) 0 ≡ Int (pos (number x))
  pub nights_are : (x : X) → nights_of x ≡ Int (pos (number x)) ∷ Int (pos (night x)) ∷ []
  pub narrow : (x : X) → fits x → IsNarrow (number x)
  pub bare : X → X
  pub bare_same : (x : X) → columns_of (bare x) ≡ columns_of x
  pub bare_night : (x : X) → night (bare x) ≡ 0
  pub bare_fits : (x : X) → fits x → fits (bare x)

-- Rows that are read as records.
use Rattle.std.proofs.lemmas.Grind.{common_steps}
use Rattle.std.proofs.Common.{◌≡◌, ℕ, zero, suc, ◌+◌, List, [], ◌∷◌, ◌++◌, map, take, get_or, refl, ◌<◌, length, arith}
use Rattle.std.proofs.lemmas.List.{map-append, take_more}
use Rattle.sqlite_value.specs.Order.{Row}
use Rattle.office_tables.specs.Nights.{bare_columns}

-- a row with columns
abbrev pub IsFull : Row → Type 0
IsFull [] = ⊥
IsFull (v ∷ vs) = Unit {0}

-- a row that is read from only the first table has an amount over night of 0
pub full_night : (night : ℕ) (columns : Row) → IsFull (bare_columns night columns) → night ≡ 0
full_night zero columns full = refl
full_night (suc n) columns full = absurd full

-- the records read of one more row
pub one_read : {T : Type 0} (row_of : T → Row) (shown : Row → Row) (made : List T) (rows : List Row)
    (at : ℕ) (d : Row)
    (x : T) (more : List T) → at < length rows → more ≡ made ++ x ∷ []
    → row_of x ≡ shown (get_or rows at d)
    → map row_of made ≡ map shown (take at rows) → map row_of more ≡ map shown (take (at + 1) rows)
one_read row_of shown made rows at d x more below is one before = grind (arith, common_steps, map-append, take_more)

-- Amounts by kind.
use Rattle.std.proofs.Common.{◌≡◌, ℕ, refl}
use Rattle.exam_score.specs.Kinds.{TableKind, in_row, in_day, in_spread, Kind, in_table, over_night, table_amount, by_table, EachInTable, with_night, amount, by_kind, EachKind}
use Rattle.exam_score.specs.Penalty.{PersonalPenalty}
use Rattle.exam_score.specs.declared.amounts.Amounts.{Amounts}

-- a fact for each kind, from one for any kind
pub each_in_table : {P : TableKind → Type 0} → ((k : TableKind) → P k) → EachInTable P
each_in_table any = (any in_row, any in_day, any in_spread)

pub each_kind : {P : Kind → Type 0} → ((k : Kind) → P k) → EachKind P
each_kind any =
    (any (in_table in_row), any (in_table in_day), any (in_table in_spread), any over_night)

-- the amounts that were given by kind
pub at_table : (f : TableKind → ℕ) (k : TableKind) → table_amount (by_table f) k ≡ f k
at_table f in_row = refl
at_table f in_day = refl
at_table f in_spread = refl

pub at_kind : (f : Kind → ℕ) (k : Kind) → amount (by_kind f) k ≡ f k
at_kind f (in_table k) = at_table (λ k. f (in_table k)) k
at_kind f over_night = refl

-- amounts that agree kind by kind
pub by_kinds : (a : PersonalPenalty) (f : Kind → ℕ) → ((k : Kind) → amount a k ≡ f k)
    → a ≡ by_kind f
by_kinds a f same = λ i. by_kind (λ k. same k i)

-- those of the table, and that of night
pub of_kinds : (a : Amounts ℕ) (night : ℕ) (f : Kind → ℕ)
    → ((k : TableKind) → table_amount a k ≡ f (in_table k)) → night ≡ f over_night
    → (k : Kind) → amount (with_night a night) k ≡ f k
of_kinds a night f table last (in_table k) = table k
of_kinds a night f table last over_night = last

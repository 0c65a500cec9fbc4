-- The shares of exams, periods and rooms, row by row.
use Rattle.std.proofs.lemmas.Grind.{common_steps}
use Rattle.std.proofs.Common.{◌≡◌, ℕ, ◌<◌, ◌^◌, List, All, Some, refl, sym, ap, arith, lit<}
use Rattle.std.specs.List.{AllByRecursion}
use Rattle.std.proofs.lemmas.List.Elements.{All-from_recursion}
use Rattle.exam_lists.proofs.Each.{each_append}
use Rattle.exam_publish.specs.AddUp.{AreSmall}
use Rattle.exam_publish.specs.Shares.{Sharing}
use Rattle.exam_publish.specs.declared.share_lists.RoomShare.{RoomShare}
use Rattle.office_tables.specs.Tables.SharePart.{ArePartAmounts}
use Rattle.office_tables.specs.declared.tables.share_part.PartShareRow.{PartShareRow}
use Rattle.office_records.specs.PartShares.{part_rows, plain_rows, room_rows}
use Rattle.exam_lists.proofs.Numbered.{AreRowsOf, each_numbered}

abbrev pub no_row : PartShareRow
no_row = record { kind = 0; no = 0; penalty = 0; mixed = 0 }

-- ---- shares of exams or periods

abbrev pub plain_row : ℕ → ℕ → ℕ → PartShareRow
plain_row kind n share = record { kind = kind; no = n; penalty = share; mixed = 0 }

pub plain_are : (kind : ℕ) → AreRowsOf (plain_rows kind) (λ n share. Some (plain_row kind n share))
plain_are kind = record { none = λ n. refl; first = λ n share shares. refl }

-- the row of its own share, by its parts
pub plain_parts : (kind n : ℕ) (row : PartShareRow) → plain_row kind n row.penalty ≡ row
    → (row.kind ≡ kind) × (row.no ≡ n) × (row.mixed ≡ 0)
plain_parts kind n row is = grind (arith, common_steps)

pub plain_from_parts : (kind n : ℕ) (row : PartShareRow)
    → (row.kind ≡ kind) × (row.no ≡ n) × (row.mixed ≡ 0) → plain_row kind n row.penalty ≡ row
plain_from_parts kind n row is =
    sym (λ i. record { kind = is.0 i; no = is.1 i; penalty = row.penalty; mixed = is.2 i })

-- ---- shares of rooms

abbrev pub room_row : ℕ → RoomShare → PartShareRow
room_row n share = record { kind = 2; no = n; penalty = share.penalty; mixed = share.mixed }

abbrev pub no_share : RoomShare
no_share = record { penalty = 0; mixed = 0 }

abbrev pub room_share_back : PartShareRow → RoomShare
room_share_back row = record { penalty = row.penalty; mixed = row.mixed }

pub rooms_are : AreRowsOf room_rows (λ n share. Some (room_row n share))
rooms_are = record { none = λ n. refl; first = λ n share shares. refl }

pub room_parts : (n : ℕ) (row : PartShareRow) → room_row n (room_share_back row) ≡ row
    → (row.kind ≡ 2) × (row.no ≡ n)
room_parts n row is =
    (sym (ap (λ (r : PartShareRow). r.kind) is), sym (ap (λ (r : PartShareRow). r.no) is))

pub room_from_parts : (n : ℕ) (row : PartShareRow) → (row.kind ≡ 2) × (row.no ≡ n)
    → room_row n (room_share_back row) ≡ row
room_from_parts n row is =
    sym (λ i. record { kind = is.0 i; no = is.1 i; penalty = row.penalty; mixed = row.mixed })

-- ---- all parts

-- a fact of the rows of shares of each kind holds of all
pub each_part : (P : PartShareRow → Type 0) (shares : Sharing)
    → AllByRecursion P (plain_rows 0 0 shares.exams)
    → AllByRecursion P (plain_rows 1 0 shares.periods)
    → AllByRecursion P (room_rows 0 shares.rooms) → AllByRecursion P (part_rows shares)
each_part P shares exams periods rooms =
    each_append P (plain_rows 0 0 shares.exams) _ exams
    (each_append P (plain_rows 1 0 shares.periods) _ periods rooms)

plain_small : (kind : ℕ) (shares : List ℕ) → All (λ share. share < 2 ^ 62) shares
    → AllByRecursion ArePartAmounts (plain_rows kind 0 shares)
plain_small kind shares all =
    each_numbered (plain_are kind) ArePartAmounts 0 0 shares
    (λ k m within is. record { penalty = all k 0 within; mixed = lit< tt })

pub parts_small : (shares : Sharing) → AreSmall shares → All ArePartAmounts (part_rows shares)
parts_small shares small =
    All-from_recursion ArePartAmounts (part_rows shares)
    (each_part ArePartAmounts shares (plain_small 0 shares.exams small.exams)
    (plain_small 1 shares.periods small.periods)
    (each_numbered rooms_are ArePartAmounts no_share 0 shares.rooms
    (λ k m within is. let h = small.rooms k no_share within in
    record { penalty = omega (arith, h); mixed = omega (arith, h) })))

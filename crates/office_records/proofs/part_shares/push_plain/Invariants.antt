use Rattle.std.proofs.Common.{◌≡◌, ◌++◌, take}
use Rattle.office_records.specs.PartShares.{part_kind_number, plain_rows}
use Rattle.office_records.proofs.part_shares.push_plain.Given as goal

abbrev pub invariant-shares : goal.invariant-shares
invariant-shares l =
    l.rows.items ≡ l.initial.rows.items
    ++ plain_rows (part_kind_number l.kind) 0 (take l.at l.shares)

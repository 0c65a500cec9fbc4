use Rattle.std.proofs.Common.{◌≡◌, ◌<ℤ◌, ℤ, List, map, take}
use Rattle.sqlite_trees.specs.Tree.{IsAscending}
use Rattle.sqlite_value.specs.declared.value.Value.TheVariants.{Int}
use Rattle.sqlite_value.specs.Order.{column}
use Rattle.office_tables.proofs.Rising.{EndsWith}
use Rattle.office_tables.proofs.listing.numbers_rise.Given as goal

abbrev pub invariant-loop-row : goal.invariant-loop-row
invariant-loop-row l =
    (numbers : List ℤ)
    × (map (λ r. column r l.at) (take l.row-index l.rows) ≡ map Int numbers)
    × IsAscending (λ a b. a <ℤ b) numbers × EndsWith l.last numbers

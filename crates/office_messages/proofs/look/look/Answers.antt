use Rattle.std.proofs.Common.{◌≡◌, ◌<◌, ◌≤◌, ℕ, List, length, take, length-take, true, false, arith, ap}
use Rattle.std.proofs.Common.{subst}
use Rattle.office_messages.specs.HeadEnds.{ends_as_head}
use Rattle.office_messages.proofs.HeadEndLemmas.{searched_none, found_end}
use Rattle.office_messages.proofs.look.look.Goals as goal

pub may_hold_end-requires : goal.may_hold_end-requires
may_hold_end-requires c =
    let known = rw c.in-Searching.is at c.requires in
    omega (
      arith,
      known.0,
      known.1,
      ap length c.first.ensures.front,
      length-take 16384
          c.args.bytes.now,
    )

pub without_head-requires : goal.without_head-requires
without_head-requires c =
    let known = rw c.in-Searching.is at c.requires in
    let P : List ℕ → Type 0 =
    λ l. (k : ℕ) → c.in-Searching.searched < k → k ≤ length l
    → ends_as_head (take k l) ≡ false in
    searched_none c.args.bytes.now c.in-Searching.searched known.0 known.2
    (subst P c.first.ensures.front (c.may_hold_end.ensures.none c.if-may_hold_end.false))

pub parse-requires-clause-ended : goal.parse-requires-clause-ended
parse-requires-clause-ended c =
    let P : List ℕ → Type 0 =
    λ l. (n : ℕ) × (c.in-Searching.searched < n) × (n ≤ length l)
    × (ends_as_head (take n l) ≡ true) in
    let found = subst P c.first.ensures.front
    (c.may_hold_end.ensures.found c.if-may_hold_end.true) in
    found_end c.args.bytes.now found.0 found.2 found.3

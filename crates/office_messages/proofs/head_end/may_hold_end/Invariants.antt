use Rattle.std.proofs.Common.{◌≡◌, ℕ, ◌<◌, ◌≤◌, take, false}
use Rattle.office_messages.specs.HeadEnds.{ends_as_head}
use Rattle.office_messages.proofs.head_end.may_hold_end.Given as goal

abbrev pub invariant-loop-last : goal.invariant-loop-last
invariant-loop-last l =
    (n : ℕ) → l.searched < n → n ≤ l.last → ends_as_head (take n l.bytes) ≡ false

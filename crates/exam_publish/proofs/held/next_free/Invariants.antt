use Rattle.std.proofs.Common.{◌≡◌, ℕ, ◌-◌, ◌<◌, ◌≤◌, true}
use Rattle.std.specs.List.{list_any}
use Rattle.exam_publish.specs.Seating.{is_held}
use Rattle.exam_publish.proofs.held.next_free.Given as goal

-- all seats from the first one up to this one are held
abbrev pub invariant-seats : goal.invariant-seats
invariant-seats l = record {
  least : l.from ≤ l.seat;
  between : (k : ℕ) → l.from ≤ k → k < l.seat → list_any (is_held l.place k) l.held ≡ true;
}

abbrev pub decreases-seats : goal.decreases-seats
decreases-seats l = 100001 - l.seat

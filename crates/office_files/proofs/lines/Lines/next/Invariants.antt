use Rattle.std.proofs.Common.{◌≡◌, length}
use Rattle.office_files.specs.Fields.{ended_parts}
use Rattle.office_files.specs.Lines.{pieces_from, lines_from, HasPlaces}
use Rattle.office_files.proofs.lines.Lines.next.Given as goal

abbrev pub invariant-loop-self : goal.invariant-loop-self
invariant-loop-self l = record {
  same : l.fn.self ≡ lines_from l.self-inside.line
      (pieces_from l.self-inside.at (ended_parts 10 l.self-inside.left.now));
  places : HasPlaces l.self-inside.line l.self-inside.at l.self-inside.left.now;
}

abbrev pub decreases-loop-self : goal.decreases-loop-self
decreases-loop-self l = length l.self-inside.left.now

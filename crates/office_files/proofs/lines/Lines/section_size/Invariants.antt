use Rattle.std.proofs.Common.{◌≡◌, ◌≤◌, ◌+◌, length}
use Rattle.office_files.specs.Lines.{section_size}
use Rattle.office_files.proofs.lines.Lines.section_size.Given as goal

abbrev pub invariant-loop-row : goal.invariant-loop-row
invariant-loop-row l =
    record {
      size : section_size l.self ≡ l.lines + section_size l.ahead;
      within : l.lines + length l.ahead ≤ length l.self;
    }

abbrev pub decreases-loop-row : goal.decreases-loop-row
decreases-loop-row l = length l.ahead

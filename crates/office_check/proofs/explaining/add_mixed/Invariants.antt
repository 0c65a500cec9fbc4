use Rattle.std.proofs.Common.{string_bytes, take}
use Rattle.std.specs.List.{flat_map}
use Rattle.office_check.specs.Why.{Adds, mixed_line}
use Rattle.office_check.proofs.explaining.add_mixed.Given as goal

-- the lines so far
abbrev pub invariant-loop-reason : goal.invariant-loop-reason
invariant-loop-reason g l =
    Adds (g.W.Write.contents l.fn.writer) (g.W.Write.contents l.writer)
    (string_bytes l.fn.lines) (string_bytes l.lines)
    (flat_map mixed_line (take l.reason-index l.mixed))

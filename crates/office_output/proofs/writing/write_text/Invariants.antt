use Rattle.std.specs.Prelude.{◌≡◌, ◌+◌, ◌-◌, ◌≤◌, List, ◌++◌, length, ℕ}
use Rattle.std.specs.Io.KnownBytes.{Appends}
use Rattle.office_output.proofs.writing.write_text.Given as goal

-- the written bytes and the rest add up to all bytes
abbrev pub invariant-loop-rest : goal.invariant-loop-rest
invariant-loop-rest g l = record {
  part : (sent : List ℕ) × (l.text ≡ sent ++ l.rest)
      × Appends (g.W.Write.contents l.fn.writer) (g.W.Write.contents l.writer) sent;
  few : l.interruptions ≤ 1000;
}

abbrev pub decreases-loop-rest : goal.decreases-loop-rest
decreases-loop-rest g l = length l.rest + (1000 - l.interruptions)

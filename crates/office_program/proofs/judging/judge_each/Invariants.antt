use Rattle.std.proofs.Common.{map, string_bytes, take}
use Rattle.office_program.specs.CheckAll.{HasOutcomes}
use Rattle.office_program.proofs.judging.judge_each.Given as goal

-- the solutions so far have their outcomes
abbrev pub invariant-loop-path : goal.invariant-loop-path
invariant-loop-path g l = record {
  outcomes : HasOutcomes g.E.Lines.tells l.judge.0 l.judge.1 (g.T.Texts.known l.files)
      l.form (map string_bytes (take l.path-index l.solutions))
      (g.I.Read.remaining l.fn.stdin) (g.I.Read.remaining l.stdin)
      (g.W.Write.contents l.fn.out) (g.W.Write.contents l.out)
      l.fn.err l.err l.found;
}

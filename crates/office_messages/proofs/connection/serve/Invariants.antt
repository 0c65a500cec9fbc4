use Rattle.std.proofs.Common.{◌-◌, ◌+◌, ◌≤◌}
use Rattle.std.specs.Prelude.{vec_capacity}
use Rattle.office_messages.specs.Looks.{Knows}
use Rattle.office_messages.proofs.ServeLemmas.{Progress}
use Rattle.office_messages.proofs.connection.serve.Given as goal

abbrev pub invariant-loop-answered : goal.invariant-loop-answered
invariant-loop-answered g l = record {
  progress : Progress g.M.Machine.Answers (g.R.Read.remaining l.fn.reader)
      (g.R.Read.remaining l.reader)
      (g.W.Write.contents l.fn.writer)
      (g.W.Write.contents l.writer) l.fn.machine l.machine l.answered l.buffer.items;
  known : Knows l.buffer.items l.stage;
  room : 256 ≤ vec_capacity l.room;
  turns : l.turns ≤ l.fn.turns;
}

abbrev pub decreases-loop-answered : goal.decreases-loop-answered
decreases-loop-answered g l = l.turns + (100 - l.answered)

use Rattle.std.proofs.Common.{◌≡◌, true}
use Rattle.office_messages.proofs.RunLemmas.{trace_keeps, trace_kept}
use Rattle.office_messages.proofs.laws.runs_keep.Goals as goal

pub returns-clause-forwards : goal.returns-clause-forwards
returns-clause-forwards g c = λ holds keeps items old output new t h.
    trace_keeps g.M.Machine.Answers (λ m. holds m ≡ true) keeps items old output new t h

pub returns-clause-backwards : goal.returns-clause-backwards
returns-clause-backwards g c = λ holds kept items old output new t h.
    trace_kept g.M.Machine.Answers (λ m. holds m ≡ true) kept items old output new t h

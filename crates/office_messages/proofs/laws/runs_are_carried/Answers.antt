use Rattle.office_messages.proofs.RunLemmas.{trace_along}
use Rattle.office_messages.proofs.laws.runs_are_carried.Goals as goal

pub returns : goal.returns
returns g c = λ f carried items old output new t.
    trace_along f g.M.Machine.Answers g.N.Machine.Answers carried items old output new t

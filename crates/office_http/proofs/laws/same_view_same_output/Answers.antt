use Rattle.office_http.proofs.IsolationLemmas.{same_output, stays_all, written}
use Rattle.office_http.proofs.laws.same_view_same_output.Goals as goal

pub returns-clause-written : goal.returns-clause-written
returns-clause-written c = λ s input before after office next served run.
    written s run.items office next run.output run.trace

pub returns-clause-stays : goal.returns-clause-stays
returns-clause-stays c = λ s input before after office next served run.
    stays_all s run.items office next run.output run.trace

pub returns-clause-same : goal.returns-clause-same
returns-clause-same c =
    λ s input before after one next served stream written out other last ended first second.
    same_output s first.items second.items one next other last first.output second.output
    first.trace
    second.trace

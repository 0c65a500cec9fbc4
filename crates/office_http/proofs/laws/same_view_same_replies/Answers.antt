use Rattle.office_http.proofs.IsolationLemmas.{all_by_view, both_quiet, each_by_view}
use Rattle.office_http.specs.Transcripts.{entries}
use Rattle.office_http.proofs.laws.same_view_same_replies.Goals as goal

pub returns-clause-agree : goal.returns-clause-agree
returns-clause-agree c =
    λ s input before after one next served stream written out other last ended first second.
    all_by_view s (entries first) (entries second)
    (each_by_view first.items one next first.output first.trace)
    (each_by_view second.items other last second.output second.trace)

pub returns-clause-quiet : goal.returns-clause-quiet
returns-clause-quiet c =
    λ s input before after one next served stream written out other last ended first second.
    both_quiet s first.items second.items one next other last first.output second.output first.trace
    second.trace

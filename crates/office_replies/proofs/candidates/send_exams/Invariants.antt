use Rattle.std.proofs.Common.{take}
use Rattle.serde.specs.Event.{WritesEach}
use Rattle.serde_json.specs.Events.{SendsValue}
use Rattle.office_replies.specs.CandidateViews.{exam_data}
use Rattle.office_replies.proofs.candidates.send_exams.Given as goal

abbrev pub invariant-loop-row : goal.invariant-loop-row
invariant-loop-row g l =
    WritesEach (λ row. SendsValue (exam_data row)) (take l.row-index l.rows)
    (g.S.Serializer.written l.initial.out) (g.S.Serializer.written l.out)

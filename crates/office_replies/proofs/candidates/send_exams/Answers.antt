use Rattle.std.proofs.Common.{rules, refl}
use Rattle.std.proofs.lemmas.Result.{on_ok_weaker}
use Rattle.serde.proofs.Events.{WritesEach-more, WritesSeq-ends}
use Rattle.serde_json.specs.Events.{SendsValue}
use Rattle.office_replies.specs.CandidateViews.{exam_data}
use Rattle.office_replies.proofs.ArrayLemmas.{sends_array}
use Rattle.office_replies.proofs.candidates.send_exams.Goals as goal

pub loop-row-preserved : goal.loop-row-preserved
loop-row-preserved g c =
    WritesEach-more (λ row. SendsValue (exam_data row)) _ _ _ _ _ _ (search rules) c.row-item.is
    c.loop-row.invariant c.in_ok-send_exam.ensures

pub returns : goal.returns
returns g c =
    on_ok_weaker c.end_seq.result (λ ended.
    sends_array exam_data _ _ _
    (WritesSeq-ends (λ row. SendsValue (exam_data row)) _ _ _ _ _ _ _ _ refl (search rules)
    (search rules) c.in_ok-begin_seq.ensures c.loop-row.invariant ended))
    c.end_seq.ensures

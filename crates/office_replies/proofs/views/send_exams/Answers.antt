use Rattle.std.proofs.Common.{◌≡◌, ℕ, ◌∙◌, length, get_or, refl, sym, arith}
use Rattle.std.proofs.lemmas.List.FromFn.{length-range_with_len, get_or-range_with_len}
use Rattle.std.proofs.lemmas.Result.{on_ok_weaker}
use Rattle.std.specs.List.{range_with_len}
use Rattle.serde.proofs.Events.{WritesEach-more, WritesSeq-ends}
use Rattle.serde_json.specs.Data.{Data}
use Rattle.serde_json.specs.Events.{SendsValue}
use Rattle.exam_model.specs.Timetable.{place_of}
use Rattle.office_replies.specs.Views.{exam_data}
use Rattle.office_replies.proofs.ArrayLemmas.{sends_array}
use Rattle.office_replies.proofs.views.send_exams.Goals as goal

pub loop-number-preserved : goal.loop-number-preserved
loop-number-preserved g c =
    let T = c.args.timetable.now in
    let n = c.loop-number.number in
    let shown : ℕ → Data = λ e. exam_data e (place_of T e) in
    let len = length-range_with_len 0 (length T) in
    let is : n ≡ get_or (range_with_len 0 (length T)) n n =
    omega (arith, get_or-range_with_len 0 (length T) n n (omega arith)) in
    WritesEach-more (λ e. SendsValue (shown e)) _ n n _ _ _ (omega (arith, len)) is
    c.loop-number.invariant
    (rw (c.get.ensures, c.new-exam.ensures) at c.in_ok-send_exam.ensures)

pub returns : goal.returns
returns g c =
    let T = c.args.timetable.now in
    let len = length-range_with_len 0 (length T) in
    let shown : ℕ → Data = λ e. exam_data e (place_of T e) in
    on_ok_weaker c.end_seq.result (λ ended.
    sends_array shown _ _ _
    (WritesSeq-ends (λ e. SendsValue (shown e)) _ _ _ _ _ _ _ _ refl
    (c.exams.ensures.count ∙ sym len) (omega (arith, len))
    c.in_ok-begin_seq.ensures c.loop-number.invariant ended))
    c.end_seq.ensures

use Rattle.std.proofs.Common.{◌≡◌, ◌<◌, ◌++◌, ◌∷◌, [], ℕ, length, ap, ap₂, sym, ◌∙◌, arith}
use Rattle.std.proofs.lemmas.List.FromFn.{map-range_with_len_more}
use Rattle.exam_model.specs.Timetable.{place_of}
use Rattle.exam_score.specs.FrontLoad.{exam_front}
use Rattle.exam_publish.specs.Rows.{enrolled_in}
use Rattle.exam_score.specs.Front.{front_by}
use Rattle.exam_publish.proofs.SizeLemmas.{front_is}
use Rattle.exam_publish.proofs.exam_shares.exam_shares.Goals as goal

pub exams-preserved : goal.exams-preserved
exams-preserved c =
    let I = c.args.instance.now in
    let rows = c.args.rows.now in
    let T = c.args.timetable.now in
    let e = c.exams.exam in
    let front : ℕ → ℕ = exam_front I (enrolled_in (length I.exams) rows) T in
    let within : e < length I.exams =
    omega (arith, c.exams-test.true, c.exams-exam-end.ensures.count) in
    let own : c.front_share.result ≡ front e
    = c.front_share.ensures.share
    ∙ ap₂ (λ sizes at. front_by I sizes at c.new-exam.result) c.deref.ensures.value
    (c.get-place.ensures ∙ ap (place_of T) c.new-exam.ensures)
    ∙ ap (front_by I c.in_ok-sizes.sizes.items (place_of T e)) c.new-exam.ensures
    ∙ front_is I rows T c.in_ok-sizes.sizes.items e c.in_ok-sizes.ensures within in
    c.in_ok-push.ensures.items ∙ ap₂ (λ xs x. xs ++ x ∷ []) c.exams.invariant own
    ∙ sym (map-range_with_len_more front 0 e e (omega arith))

use Rattle.std.proofs.Common.{◌++◌, ◌∷◌, ◌<◌, [], length, get_or, set, inl, inr, ap, ◌∙◌, sym, arith}
use Rattle.std.specs.Prelude.{slice_index}
use Rattle.std.proofs.lemmas.Bool.{cases_eq}
use Rattle.std.proofs.lemmas.List.{get_or-set_same, get_or-set_other}
use Rattle.exam_model.proofs.ConflictLemmas.{with_none, with_some}
use Rattle.exam_model.proofs.conflicts.take_conflicts.Goals as goal
use Rattle.exam_model.proofs.conflicts.take_conflicts.Goals.{then-students-ne0+in_ok-push, else-students-ne0}

pub loop-exam-preserved : goal.loop-exam-preserved
loop-exam-preserved c =
    let e = c.loop-exam.exam in
    let f = c.args.other in
    let now = c.loop-exam.counts in
    let n = slice_index now e in
    let was = c.loop-exam.invariant in
    let lt : e < f = omega (arith, c.loop-exam-test.true, c.get-exam-end.ensures) in
    let within : e < length now =
    omega (arith, lt, c.requires.count, c.loop-exam.auto.counts) in
    let here = was.kept e (omega arith) in
    elim c.if-students-ne0.branch [
      | then-students-ne0+in_ok-push w ↦
          record {
            found = λ E are.
                ap (λ v. v.items) w.found-is ∙ w.in_ok-push.ensures.items
                ∙ ap (λ k. c.loop-exam.found.items ++ record { exam = k; other = f; students = n } ∷ [])
                w.new-exam.ensures
                ∙ with_some E f e n c.args.found.now.items c.loop-exam.found.items
                (here ∙ are.each e lt) w.if-students-ne0.true (was.found E are);
            zero = λ k le. ap (λ xs. get_or xs k 0) w.counts-is
                ∙ (elim (cases_eq k e) [
                  | inl same ↦ ap (λ i. get_or (set now e 0) i 0) same ∙ get_or-set_same now e 0 0 within
                  | inr other ↦
                      get_or-set_other now e k 0 0 (λ is. omega arith) ∙ was.zero k (omega arith)
                ]);
            kept = λ k le. ap (λ xs. get_or xs k 0) w.counts-is
                ∙ get_or-set_other now e k 0 0 (λ is. omega arith) ∙ was.kept k (omega arith);
          }
      | else-students-ne0 w ↦
          record {
            found = λ E are.
                ap (λ v. v.items) w.found-is
                ∙ with_none E f e c.args.found.now.items c.loop-exam.found.items
                (sym w.if-students-ne0.false ∙ here ∙ are.each e lt) (was.found E are);
            zero = λ k le. ap (λ xs. get_or xs k 0) w.counts-is
                ∙ (elim (cases_eq k e) [
                  | inl same ↦ ap (λ i. get_or now i 0) same ∙ w.if-students-ne0.false
                  | inr other ↦ was.zero k (omega arith)
                ]);
            kept = λ k le. ap (λ xs. get_or xs k 0) w.counts-is ∙ was.kept k (omega arith);
          }
    ]

use Rattle.std.proofs.Common.{ℕ, ◌≡◌, inl, inr, ap, ◌∙◌}
use Rattle.exam_model.specs.Enrolments.{has, has_number}
use Rattle.exam_rules.specs.Marks.{marks_of}
use Rattle.exam_rules.proofs.MarkLemmas.{before_or_here}
use Rattle.exam_rules.proofs.period_rules.unmark.Goals as goal

pub exams-preserved : goal.exams-preserved
exams-preserved c e s among sits =
    let x : ℕ = c.exam-item.result in
    let group = c.args.group.now in
    elim (before_or_here group c.exams.exam-index x e c.exams-test.true c.exam-item.is among)
    as (λ _. marks_of c.clear.new.self s ≡ 0) [
      | inl before ↦ c.clear.ensures.kept s (c.exams.invariant e s before sits)
      | inr same ↦ c.clear.ensures.cleared s (ap (λ xs. has_number xs s) c.students.ensures.all
          ∙ ap (has c.args.enrolments.now s) same ∙ sits)
    ]

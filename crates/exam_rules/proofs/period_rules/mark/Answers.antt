use Rattle.std.proofs.Common.{ℕ, inl, inr, subst, ap, ◌∙◌}
use Rattle.exam_model.specs.Enrolments.{has, has_number}
use Rattle.exam_rules.specs.Marks.{marks_of, Has}
use Rattle.exam_rules.proofs.MarkLemmas.{before_or_here}
use Rattle.exam_rules.proofs.period_rules.mark.Goals as goal

pub exams-preserved : goal.exams-preserved
exams-preserved c e s among sits =
    let x : ℕ = c.exam-item.result in
    elim (before_or_here c.args.group.now c.exams.exam-index x e c.exams-test.true
    c.exam-item.is among)
    as (λ _. Has (marks_of c.add.new.self s) e) [
      | inl before ↦ c.add.ensures.kept s e (c.exams.invariant e s before sits)
      | inr same ↦ subst (Has (marks_of c.add.new.self s)) same
          (c.add.ensures.marked s (ap (λ xs. has_number xs s) c.students.ensures.all
          ∙ ap (has c.args.enrolments.now s) same ∙ sits))
    ]

use Rattle.std.proofs.Common.{◌∙◌, ℕ, ◌+◌, ◌<◌, length, count_by, take, sym, ap, ap₂, arith, length-take}
use Rattle.std.proofs.lemmas.List.Sums.{sum_by_more, sum_by-le}
use Rattle.exam_model.specs.Links.{is_link}
use Rattle.exam_model.proofs.conflicts.count_all.Goals as goal

pub count_exams-more-requires-clause-room : goal.count_exams-more-requires-clause-room
count_exams-more-requires-clause-room c =
    let i = c.loop-student.student-index in
    let students = c.args.students.now in
    λ e lt.
    let within : e < length c.args.counts.now = omega (arith, lt, c.loop-student.auto.counts) in
    let most = sum_by-le (λ s. count_by (is_link s e) c.args.links.now.list.items) 1 (take i students)
    (λ k d less. c.requires.once _ e within) in
    omega (
      arith,
      c.loop-student.invariant e within,
      most,
      length-take i students,
      c.loop-student-test.true,
      c.requires.few_students,
    )

pub loop-student-preserved : goal.loop-student-preserved
loop-student-preserved c =
    let i = c.loop-student.student-index in
    let students = c.args.students.now in
    λ e lt.
    let sat : ℕ → ℕ = λ s. count_by (is_link s e) c.args.links.now.list.items in
    c.count_exams-more.ensures e (omega (arith, lt, c.loop-student.auto.counts))
    ∙ ap₂ (λ a b. a + b) (c.loop-student.invariant e lt) (ap sat c.student-item.is)
    ∙ sym (sum_by_more sat students i c.student-item.result c.loop-student-test.true)

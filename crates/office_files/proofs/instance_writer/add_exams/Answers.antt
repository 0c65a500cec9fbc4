use Rattle.std.proofs.Common.{◌≡◌, ◌∙◌, ◌++◌, ℕ, List, ap, sym, length, string_bytes, arith, Some}
use Rattle.std.specs.List.{flat_map}
use Rattle.std.specs.Prelude.{slice_get}
use Rattle.exam_lists.proofs.Maps.{flat_map_take_all, flat_map_take_more}
use Rattle.exam_model.specs.Enrolments.{students}
use Rattle.office_files.specs.CanonicalLines.{line_of, exam_text}
use Rattle.office_files.specs.CanonicalText.{header_text, exam_lines_of}
use Rattle.office_files.specs.ExamLines.{ExamLine}
use Rattle.office_files.specs.Spelled.{exams_heading}
use Rattle.office_files.proofs.CanonicalSteps.{line_at, length_lines}
use Rattle.office_files.proofs.instance_writer.add_exams.Goals as goal

pub loop-number-preserved : goal.loop-number-preserved
loop-number-preserved c =
    let exams = c.args.instance.now.exams in
    let E = c.args.enrolments.now in
    let line : ExamLine =
    record { minutes = c.exam.result.minutes; students = c.students-students.result.now } in
    let at : slice_get (exam_lines_of exams E) c.loop-number.number ≡ Some line
    = line_at exams E c.loop-number.number c.exam.result c.requires.fits
    (ap (slice_get exams) (sym c.new-exam.ensures) ∙ c.exam.ensures)
    ∙ ap (λ (ss : List ℕ).
    Some (let y : ExamLine = record { minutes = c.exam.result.minutes; students = ss } in y))
    (ap (students E) (sym c.new-exam.ensures) ∙ sym c.students-students.ensures.all) in
    flat_map_take_more (λ x. line_of (exam_text x))
    (string_bytes c.args.text.now ++ line_of (header_text exams_heading (length exams)))
    (string_bytes c.loop-number.text) _ (exam_lines_of exams E) c.loop-number.number line at
    c.loop-number.invariant c.in_ok-add_exam.ensures

pub returns : goal.returns
returns c =
    let exams = c.args.instance.now.exams in
    let E = c.args.enrolments.now in
    let lines = exam_lines_of exams E in
    let many = length_lines exams E c.requires.fits in
    let flat : List ℕ = flat_map (λ x. line_of (exam_text x)) lines in
    flat_map_take_all (λ x. line_of (exam_text x)) (string_bytes c.args.text.now)
    (line_of (header_text exams_heading (length exams))) (string_bytes c.loop-number.text) lines
    c.loop-number.number
    (omega (arith, many, c.exams-count.ensures.count, c.loop-number-test.false))
    c.loop-number.invariant
    ∙ ap (λ (n : ℕ). string_bytes c.args.text.now
    ++ (line_of (header_text exams_heading n) ++ flat))
    (sym many)

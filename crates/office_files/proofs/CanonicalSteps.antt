-- Lines added one after another.
use Rattle.std.proofs.lemmas.Grind.{common_steps}
use Rattle.std.proofs.Common.{◌≡◌, ℕ, zero, suc, ◌<◌, List, [], ◌∷◌, ◌++◌, length}
use Rattle.std.proofs.Common.{refl, ap, arith, append_assoc, append-nil}
use Rattle.std.specs.Prelude.{Some, slice_get}
use Rattle.std.specs.List.{flat_map}
use Rattle.exam_model.specs.Enrolments.{Enrolled, students}
use Rattle.exam_model.specs.declared.parts.Exam.{Exam}
use Rattle.office_files.specs.CanonicalLines.{line_of, field_before, weighting_text}
use Rattle.office_files.specs.CanonicalText.{exam_lines_of, nights_of}
use Rattle.office_files.specs.declared.weightings.Weighting.TheVariants.{Night}

-- a date, a time and two numbers
pub period_written : (t0 t1 t2 t3 t4 t5 d s a : List ℕ) → t1 ≡ t0 ++ d → t2 ≡ t1 ++ 44 ∷ 32 ∷ []
    → t3 ≡ t2 ++ s → t4 ≡ t3 ++ 44 ∷ 32 ∷ [] → t5 ≡ t4 ++ line_of a
    → t5 ≡ t0 ++ line_of (field_before d (field_before s a))
period_written t0 t1 t2 t3 t4 t5 d s a e1 e2 e3 e4 e5 =
    rw (e5, e4, e3, e2, e1) (simp append_assoc)

-- the line of nights, if there is one
pub night_line : (n : ℕ) → 0 < n
    → flat_map (λ s. line_of (weighting_text s)) (nights_of n) ≡ line_of (weighting_text (Night n))
night_line zero some = absurd (omega arith)
night_line (suc n) some = append-nil (line_of (weighting_text (Night (suc n))))

pub no_night_line : (n : ℕ) → n ≡ 0 → flat_map (λ s. line_of (weighting_text s)) (nights_of n) ≡ []
no_night_line n none = ap (λ k. flat_map (λ s. line_of (weighting_text s)) (nights_of k)) none

-- ---- exams with their students

pub length_lines : (es : List Exam) (E : Enrolled) → length E ≡ length es
    → length (exam_lines_of es E) ≡ length es
length_lines [] E same = refl
length_lines (e ∷ es) [] same = absurd (omega arith)
length_lines (e ∷ es) (ss ∷ E) same = ap suc (length_lines es E (omega arith))

pub line_at : (es : List Exam) (E : Enrolled) (i : ℕ) (e : Exam) → length E ≡ length es
    → slice_get es i ≡ Some e
    → slice_get (exam_lines_of es E) i
    ≡ Some (record { minutes = e.minutes; students = students E i })
line_at [] E i e same at = cc
line_at (e ∷ es) [] i x same at = absurd (omega arith)
line_at (e ∷ es) (ss ∷ E) zero x same at = grind (arith, common_steps)
line_at (e ∷ es) (ss ∷ E) (suc i) x same at = line_at es E i x (omega arith) at

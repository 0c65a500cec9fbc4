-- A batch changes the exams of no student but those of the lines that act.
use Rattle.std.proofs.lemmas.Grind.{common_steps}
use Rattle.std.proofs.Common.{◌≡◌, ◌≢◌, ◌∙◌, ℕ, Bool, true, false, List, [], ◌∷◌, map, set, get_or-set_other, get_or-set_same, Ok, refl, ap, if◌then◌else◌, arith}
use Rattle.std.proofs.lemmas.Bool.{cases_eq, cases_lt, eqb-false, ne_eqb, or_parts}
use Rattle.std.proofs.lemmas.List.{set_past}
use Rattle.exam_model.specs.Enrolments.{AreEnrolments, Enrolled, has, has_number, students}
use Rattle.exam_model.specs.declared.change.Change.{Change}
use Rattle.exam_model.proofs.StudentLemmas.{has-with, has-without}
use Rattle.office_model.specs.BatchLines.{has_effect, after_change, after_changes, no_counts}
use Rattle.office_model.specs.declared.counts.Counts.{Counts}
use Rattle.office_enrolment.specs.AfterBatch.{lines_with_effect, after_batch}
use Rattle.office_enrolment.proofs.KeptLemmas.{Ascend, they_ascend}
use Rattle.office_enrolment.proofs.LineLemmas.{accepted, all_after, line_again, line_ascends}

-- if a new list of an exam has a student as before, the student sits each exam as before
has_put : (E : Enrolled) (e t f : ℕ) (new : List ℕ)
    → has_number new t ≡ has_number (students E e) t → has (set E e new) t f ≡ has E t f
has_put E e t f new same =
    grind (arith, common_steps, cases_lt, cases_eq, get_or-set_same, get_or-set_other, set_past)

-- a line changes the exams of its own student only
line_others : (change : Change) (E : Enrolled) (t f : ℕ) → change.student ≢ t
    → has (after_change change E) t f ≡ has E t f
line_others change E t f other = grind (arith, common_steps, has_put, has-with, ne_eqb, has-without)

lines_others : (changes : List Change) (E : Enrolled) → Ascend E → (t f : ℕ)
    → has_number (map (λ (line : Change). line.student) (lines_with_effect changes E)) t ≡ false
    → has (after_changes changes E) t f ≡ has E t f
lines_others [] E up t f none = refl
lines_others (change ∷ changes) E up t f none =
    go (has_effect change E) refl
    (lines_others changes (after_change change E) (line_ascends change E up) t f) none
  where
    go : (b : Bool) → has_effect change E ≡ b
        → (has_number (map (λ (line : Change). line.student)
        (lines_with_effect changes (after_change change E))) t ≡ false
        → has (after_changes changes (after_change change E)) t f ≡ has (after_change change E) t f)
        → has_number (map (λ (line : Change). line.student)
        (if b then change ∷ lines_with_effect changes (after_change change E)
        else lines_with_effect changes (after_change change E))) t ≡ false
        → has (after_changes changes (after_change change E)) t f ≡ has E t f
    go true acted more none = grind (arith, common_steps, or_parts, line_others, eqb-false)
    go false idle more none =
        more none ∙ ap (λ (F : Enrolled). has F t f) (line_again change E up idle)

-- a student of no acting line sits the same exams after a batch
pub others_after : (changes : List Change) (E : Enrolled) (done : Counts × Enrolled)
    → AreEnrolments E → after_batch changes E ≡ Ok done → (t f : ℕ)
    → has_number (map (λ (line : Change). line.student) (lines_with_effect changes E)) t ≡ false
    → has done.1 t f ≡ has E t f
others_after changes E done is made t f none =
    ap (λ (F : Enrolled). has F t f) (all_after changes E no_counts done (accepted changes E done made).1)
    ∙ lines_others changes E (they_ascend E is) t f none

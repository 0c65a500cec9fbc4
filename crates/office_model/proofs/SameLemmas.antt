-- A student's exams after a line that names them depend only on their exams before.
use Rattle.std.proofs.Common.{◌≡◌, ◌∙◌, ℕ, ◌<◌, ◌≤◌, ◌++◌, Bool, true, false, List, [], ◌∷◌, length, set, refl, ap, sym, subst, inl, inr, if◌then◌else◌}
use Rattle.std.proofs.Common.{get_or-set_other, get_or-set_same}
use Rattle.std.specs.Prelude.{◌==◌, ◌||◌, ◌&&◌, not}
use Rattle.std.specs.List.{range_with_len}
use Rattle.std.proofs.lemmas.Bool.{cases_eq, cases_lt}
use Rattle.std.proofs.lemmas.List.{length-set, set_past}
use Rattle.std.proofs.lemmas.List.Elements.{filter_agree}
use Rattle.exam_model.specs.declared.change.Change.{Change}
use Rattle.exam_model.specs.Changes.{with_student, without_student, with_pair, without_pair, exams_sat}
use Rattle.exam_model.specs.Enrolments.{Enrolled, has, has_number, students}
use Rattle.exam_model.proofs.StudentLemmas.{has-with, has-without}
use Rattle.office_model.specs.BatchLines.{after_change, after_changes}

-- of two enrolments for one number of exams a student sits the same exams in both
pub record AreSame (s : ℕ) (E F : Enrolled) : Type 0 where
  pub exams : length E ≡ length F
  pub sat : (e : ℕ) → has E s e ≡ has F s e

pub same_self : (s : ℕ) (E : Enrolled) → AreSame s E E
same_self s E = record { exams = refl; sat = λ e. refl }

pub same_sat : (s : ℕ) (E F : Enrolled) → AreSame s E F → exams_sat E s ≡ exams_sat F s
same_sat s E F h =
    rw h.exams
    (filter_agree (λ e. has E s e) (λ e. has F s e) h.sat (range_with_len 0 (length F)))

-- lists of one exam that agree on the student, in their places
own_in : (E F : Enrolled) (e s : ℕ) (one other : List ℕ) → AreSame s E F
    → has_number one s ≡ has_number other s → (f : ℕ)
    → has (set E e one) s f ≡ has (set F e other) s f
own_in E F e s one other h same f = elim (cases_lt e (length E)) [
  | inl lt ↦ elim (cases_eq f e) [
    | inl here ↦
        rw (here, get_or-set_same E e one [] lt, get_or-set_same F e other [] (subst (λ n. e < n) h.exams lt))
        same
    | inr away ↦
        rw (get_or-set_other E e f one [] away, get_or-set_other F e f other [] away) (h.sat f)
  ]
  | inr past ↦
      rw (set_past E e one past, set_past F e other (subst (λ n. n ≤ e) h.exams past)) (h.sat f)
]

-- a list of one exam that agrees with the old one on the student
set_same : (E : Enrolled) (e s : ℕ) (new : List ℕ)
    → has_number new s ≡ has_number (students E e) s → AreSame s (set E e new) E
set_same E e s new same = record {
  exams = length-set E e new;
  sat = λ f. elim (cases_lt e (length E)) [
    | inl lt ↦ elim (cases_eq f e) [
      | inl here ↦ rw (here, get_or-set_same E e new [] lt) same
      | inr away ↦ rw (get_or-set_other E e f new [] away) refl
    ]
    | inr past ↦ rw (set_past E e new past) refl
  ];
}

with_both : (s t e : ℕ) (E F : Enrolled) → AreSame s E F
    → AreSame s (with_pair E t e) (with_pair F t e)
with_both s t e E F h = record {
  exams = length-set E e _ ∙ h.exams ∙ sym (length-set F e _);
  sat = own_in E F e s (with_student t (students E e)) (with_student t (students F e)) h
      (has-with t (students E e) s ∙ ap (λ b. (t == s) || b) (h.sat e)
      ∙ sym (has-with t (students F e) s));
}

without_both : (s t e : ℕ) (E F : Enrolled) → AreSame s E F
    → AreSame s (without_pair E t e) (without_pair F t e)
without_both s t e E F h = record {
  exams = length-set E e _ ∙ h.exams ∙ sym (length-set F e _);
  sat = own_in E F e s (without_student t (students E e)) (without_student t (students F e)) h
      (has-without t (students E e) s ∙ ap (λ b. not (t == s) && b) (h.sat e)
      ∙ sym (has-without t (students F e) s));
}

-- the same line has the same effect
pub line_same : (s : ℕ) (change : Change) (E F : Enrolled) → AreSame s E F
    → AreSame s (after_change change E) (after_change change F)
line_same s change E F h = go change.add
  where
    go : (b : Bool) → AreSame s
        (if b then with_pair E change.student change.exam
        else without_pair E change.student change.exam)
        (if b then with_pair F change.student change.exam
        else without_pair F change.student change.exam)
    go true = with_both s change.student change.exam E F h
    go false = without_both s change.student change.exam E F h

-- the same lines have the same effect
pub lines_same : (s : ℕ) (changes : List Change) (E F : Enrolled) → AreSame s E F
    → AreSame s (after_changes changes E) (after_changes changes F)
lines_same s [] E F h = h
lines_same s (change ∷ changes) E F h =
    lines_same s changes (after_change change E) (after_change change F) (line_same s change E F h)

-- a line that names another student doesn't change the student's exams
pub other_same : (s : ℕ) (change : Change) (E : Enrolled) → (change.student == s) ≡ false
    → AreSame s (after_change change E) E
other_same s change E other = go change.add
  where
    go : (b : Bool) → AreSame s
        (if b then with_pair E change.student change.exam
        else without_pair E change.student change.exam) E
    go true =
        set_same E change.exam s (with_student change.student (students E change.exam))
        (has-with change.student (students E change.exam) s ∙ rw other refl)
    go false =
        set_same E change.exam s (without_student change.student (students E change.exam))
        (has-without change.student (students E change.exam) s ∙ rw other refl)

pub same_then : (s : ℕ) (E F G : Enrolled) → AreSame s E F → AreSame s F G → AreSame s E G
same_then s E F G h k = record {
  exams = h.exams ∙ k.exams;
  sat = λ e. h.sat e ∙ k.sat e;
}

-- two lists of lines, one after the other
pub lines_both : (xs ys : List Change) (E : Enrolled)
    → after_changes (xs ++ ys) E ≡ after_changes ys (after_changes xs E)
lines_both [] ys E = refl
lines_both (x ∷ xs) ys E = lines_both xs ys (after_change x E)

-- The effects of lines, one after another.
use Rattle.std.proofs.lemmas.Grind.{common_steps}
use Rattle.std.proofs.Common.{◌≡◌, ◌∙◌, ◌+◌, ◌<◌, ◌≤◌, Bool, true, false, List, [], ◌∷◌, length, Ok, Err, refl, ap, sym, arith, subst, if◌then◌else◌, rules}
use Rattle.std.specs.Prelude.{not}
use Rattle.std.specs.List.{AllByRecursion, list_all}
use Rattle.std.proofs.lemmas.Bool.{leb-true, lt-leb, not-false}
use Rattle.std.proofs.lemmas.List.{length-set}
use Rattle.exam_model.specs.Changes.{with_pair, without_pair}
use Rattle.exam_model.specs.Enrolments.{Enrolled, AreEnrolments, has, pair_count}
use Rattle.exam_model.specs.declared.change.Change.{Change}
use Rattle.office_model.specs.BatchLines.{has_effect, after_change, after_changes, counts_after, enrolment_result, no_counts}
use Rattle.office_model.specs.declared.counts.Counts.{Counts}
use Rattle.office_model.specs.declared.fault.StoreFault.TheVariants.{TooMany}
use Rattle.office_enrolment.specs.AfterBatch.{after_batch, after_line, lines_in, names_exam}
use Rattle.office_enrolment.proofs.KeptLemmas.{Ascend, ascend_with, ascend_without, pair_again, no_pair_again, one_more_pair, enrolments_with, enrolments_without}

-- ---- one line

-- one that doesn't act changes nothing
pub line_again : (change : Change) (E : Enrolled) → Ascend E → has_effect change E ≡ false
    → after_change change E ≡ E
line_again change E up idle = grind (arith, common_steps, pair_again, not-false, no_pair_again)

-- as many exams as before
pub line_exams : (change : Change) (E : Enrolled) → length (after_change change E) ≡ length E
line_exams change E = grind (arith, common_steps, length-set)

pub line_ascends : (change : Change) (E : Enrolled) → Ascend E → Ascend (after_change change E)
line_ascends change E up = search (rules, ascend_with, ascend_without)

pub line_kept : (change : Change) (E : Enrolled) → change.student ≤ 999999999
    → pair_count (after_change change E) ≤ 200000 → AreEnrolments E
    → AreEnrolments (after_change change E)
line_kept change E known few is =
    let s = change.student in
    let e = change.exam in
    elim change.add as (λ b. pair_count (if b then with_pair E s e else without_pair E s e) ≤ 200000
    → AreEnrolments (if b then with_pair E s e else without_pair E s e)) [
      | true ↦ λ within. enrolments_with E s e known within is
      | false ↦ λ within. enrolments_without E s e within is
    ] few

-- each line is counted once
pub line_counted : (change : Change) (E : Enrolled) (n : Counts)
    → lines_in (counts_after change E n) ≡ lines_in n + 1
line_counted change E n = grind (arith, common_steps)

-- a new pair if the pairs are at their limit
pub line_full : (change : Change) (E : Enrolled) → change.add ≡ true → change.exam < length E
    → has E change.student change.exam ≡ false → pair_count E ≡ 200000
    → after_line change E ≡ Err TooMany
line_full change E adds lt absent full = grind (arith, common_steps, one_more_pair, lt-leb)

-- ---- all lines

-- if all lines were accepted, the first was, and those after it
pub accepted_first : (change : Change) (changes : List Change) (E : Enrolled) (n : Counts)
    (done : Counts × Enrolled) → enrolment_result (change ∷ changes) E n ≡ Ok done
    → (pair_count (after_change change E) ≤ 200000)
    × (enrolment_result changes (after_change change E) (counts_after change E n) ≡ Ok done)
accepted_first change changes E n done is = grind (arith, common_steps, leb-true)

-- accepted: each exam exists, and no line made too many pairs
pub accepted : (changes : List Change) (E : Enrolled) (done : Counts × Enrolled)
    → after_batch changes E ≡ Ok done
    → (list_all (names_exam E) changes ≡ true) × (enrolment_result changes E no_counts ≡ Ok done)
accepted changes E done is = grind (arith, common_steps)

pub all_after : (changes : List Change) (E : Enrolled) (n : Counts) (done : Counts × Enrolled)
    → enrolment_result changes E n ≡ Ok done → done.1 ≡ after_changes changes E
all_after [] E n done is =
    let same : (n, E) ≡ done = cc is in
    ap (λ (d : Counts × Enrolled). d.1) (sym same)
all_after (change ∷ changes) E n done is =
    all_after changes (after_change change E) (counts_after change E n) done
    (accepted_first change changes E n done is).1

pub all_exams : (changes : List Change) (E : Enrolled)
    → length (after_changes changes E) ≡ length E
all_exams [] E = refl
all_exams (change ∷ changes) E =
    all_exams changes (after_change change E) ∙ line_exams change E

pub all_counted : (changes : List Change) (E : Enrolled) (n : Counts) (done : Counts × Enrolled)
    → enrolment_result changes E n ≡ Ok done → lines_in done.0 ≡ lines_in n + length changes
all_counted [] E n done is = grind (arith, common_steps)
all_counted (change ∷ changes) E n done is =
    grind (arith, common_steps, accepted_first, line_counted, all_counted changes (after_change change E) (counts_after change E n) done (accepted_first change changes E n done is).1)

-- the student number of each line is within its limit
abbrev pub HaveNumbers : List Change → Type 0
HaveNumbers changes = AllByRecursion (λ (c : Change). c.student ≤ 999999999) changes

pub all_kept : (changes : List Change) (E : Enrolled) (n : Counts) (done : Counts × Enrolled)
    → HaveNumbers changes → enrolment_result changes E n ≡ Ok done → AreEnrolments E → AreEnrolments done.1
all_kept [] E n done known is was =
    let same : (n, E) ≡ done = cc is in
    subst (λ (d : Counts × Enrolled). AreEnrolments d.1) same was
all_kept (change ∷ changes) E n done known is was =
    let first = accepted_first change changes E n done is in
    all_kept changes (after_change change E) (counts_after change E n) done known.1 first.1
    (line_kept change E known.0 first.0 was)

-- Lines of which none acts, and lines of which one does.
use Rattle.std.proofs.lemmas.Grind.{common_steps}
use Rattle.std.proofs.Common.{◌≡◌, ◌≢◌, ◌∙◌, ◌+◌, ◌≤◌, Bool, true, false, List, [], ◌∷◌, length, Option, None, Result, Ok, Err, refl, ap, sym, arith, if◌then◌else◌, rules}
use Rattle.std.specs.Prelude.{◌↔◌, ◌||◌, nat_le, IfOk}
use Rattle.std.specs.List.{list_all, list_any}
use Rattle.std.proofs.lemmas.Bool.{le-leb, or_parts}
use Rattle.exam_terms.specs.Refusing.{◌>>=◌, unless}
use Rattle.exam_model.specs.Enrolments.{Enrolled, AreEnrolments, pair_count}
use Rattle.exam_model.specs.declared.change.Change.{Change}
use Rattle.office_model.specs.BatchLines.{has_effect, after_change, counts_after, enrolment_result}
use Rattle.office_model.specs.declared.counts.Counts.{Counts}
use Rattle.office_model.specs.declared.fault.StoreFault.{StoreFault}
use Rattle.office_model.specs.declared.fault.StoreFault.TheVariants.{TooMany}
use Rattle.office_enrolment.specs.AfterBatch.{lines_with_effect, has_effect_on, after_batch, idle_counts, current_enrolments, names_exam}
use Rattle.office_enrolment.specs.declared.batch.AfterBatch.{AfterBatch}
use Rattle.office_enrolment.proofs.KeptLemmas.{Ascend, they_ascend}
use Rattle.office_enrolment.proofs.LineLemmas.{line_again}

-- one line that doesn't act
module _ (change : Change) (E : Enrolled) (n : Counts) (idle : has_effect change E ≡ false) where
  abbrev one_idle : Counts
  one_idle = record n { unchanged = n.unchanged + 1 }

  idle_counted : counts_after change E n ≡ one_idle
  idle_counted = grind (arith, common_steps)

-- they are counted, and change nothing
pub idle_enrolled : (changes : List Change) (E : Enrolled) (n : Counts) → Ascend E
    → pair_count E ≤ 200000 → list_any (has_effect_on E) changes ≡ false
    → enrolment_result changes E n ≡ Ok (record n { unchanged = n.unchanged + length changes }, E)
idle_enrolled [] E n up few idle =
    let none : n.unchanged ≡ n.unchanged + 0 = omega arith in
    ap (λ k. enrolment_result [] E (record n { unchanged = k })) none
idle_enrolled (change ∷ changes) E n up few idle =
    let first = or_parts (has_effect change E) (list_any (has_effect_on E) changes) idle in
    let next : Counts = one_idle change E n first.0 in
    let long : n.unchanged + 1 + length changes ≡ n.unchanged + length (change ∷ changes)
    = omega arith in
    ap (λ (G : Enrolled). unless (nat_le (pair_count G) 200000) TooMany
    >>= λ _. enrolment_result changes G (counts_after change E n)) (line_again change E up first.0)
    ∙ ap (λ (m : Counts). unless (nat_le (pair_count E) 200000) TooMany
    >>= λ _. enrolment_result changes E m) (idle_counted change E n first.0)
    ∙ ap (λ b. unless b TooMany >>= λ _. enrolment_result changes E next)
    (le-leb (pair_count E) 200000 few)
    ∙ idle_enrolled changes E next up few first.1
    ∙ ap (λ k. enrolment_result [] E (record n { unchanged = k })) long

-- then none of them acts in file order either
pub idle_acting : (changes : List Change) (E : Enrolled) → Ascend E
    → list_any (has_effect_on E) changes ≡ false → lines_with_effect changes E ≡ []
idle_acting [] E up idle = refl
idle_acting (change ∷ changes) E up idle =
    let first = or_parts (has_effect change E) (list_any (has_effect_on E) changes) idle in
    let later : List Change = lines_with_effect changes (after_change change E) in
    ap (λ b. if b then change ∷ later else later) first.0
    ∙ ap (lines_with_effect changes) (line_again change E up first.0)
    ∙ idle_acting changes E up first.1

-- if a line acts on the enrolments before, one acts in file order
pub some_acting : (changes : List Change) (E : Enrolled) → Ascend E
    → list_any (has_effect_on E) changes ≡ true → lines_with_effect changes E ≢ []
some_acting [] E up some = absurd cc
some_acting (change ∷ changes) E up some =
    let later : List Change = lines_with_effect changes (after_change change E) in
    elim (has_effect change E) as (λ b. has_effect change E ≡ b
    → (b || list_any (has_effect_on E) changes) ≡ true
    → (if b then change ∷ later else later) ≢ []) [
      | true ↦ λ acts_first any none. absurd (cc none)
      | false ↦ λ idle any none. some_acting changes E up any
          (sym (ap (lines_with_effect changes) (line_again change E up idle)) ∙ none)
    ] refl some

-- a batch without acting lines doesn't change the enrolments
pub idle_batch : (changes : List Change) (E : Enrolled) → AreEnrolments E
    → list_all (names_exam E) changes ≡ true → list_any (has_effect_on E) changes ≡ false
    → after_batch changes E ≡ Ok (idle_counts changes, E)
idle_batch changes E is exist idle = search (rules, idle_enrolled, they_ascend)

-- ---- the result of such a batch

pub unchanged_is : (changes : List Change) (counts : Counts) (made : Option Enrolled) (E : Enrolled)
    → counts ≡ idle_counts changes → made ≡ None
    → ◌≡◌ {A = Result (Counts × Enrolled) StoreFault} (Ok (idle_counts changes, E))
    (Ok (counts, current_enrolments made E))
unchanged_is changes counts made E none copied =
    ap (λ n. Ok (n, E)) (sym none) ∙ ap (λ m. Ok (counts, current_enrolments m E)) (sym copied)

-- there is a copy if a line acts
pub copied_if : (made : Result AfterBatch StoreFault) (changes : List Change) (E : Enrolled)
    → IfOk made (λ m. m.enrolments ≢ None)
    → IfOk made (λ m. m.acting.items ≡ lines_with_effect changes E) → lines_with_effect changes E ≢ []
    → IfOk made (λ m. m.enrolments ≡ None ↔ m.acting.items ≡ [])
copied_if (Ok made) changes E copied are some =
    (λ none. absurd (copied none), λ none. absurd (some (sym are ∙ none)))
copied_if (Err fault) changes E copied are some = tt

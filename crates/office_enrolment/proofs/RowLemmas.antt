-- Rows under lines that act, one after another.
use Rattle.std.proofs.Common.{◌≡◌, ◌∙◌, ℕ, ◌<◌, Bool, true, false, List, [], ◌∷◌, filter, length, map, Ok, refl, ap, sym, arith, subst, if◌then◌else◌}
use Rattle.std.specs.Prelude.{not, nat_lt, IsPermutation}
use Rattle.std.specs.List.{list_all}
use Rattle.std.proofs.lemmas.Bool.{and_parts, ltb-true, not-true}
use Rattle.std.proofs.lemmas.List.Elements.{filter_agree}
use Rattle.std.proofs.lemmas.List.Sorted.{IsPermutation-cons, IsPermutation-map, IsPermutation-trans}
use Rattle.exam_lists.proofs.Filters.{filter-map}
use Rattle.exam_lists.proofs.Permutations.{IsPermutation-filter}
use Rattle.exam_model.specs.Changes.{with_pair, without_pair}
use Rattle.exam_model.specs.Enrolments.{Enrolled, AreEnrolments, has}
use Rattle.exam_model.specs.Pairs.{Pair, pairs_of}
use Rattle.exam_model.specs.declared.change.Change.{Change}
use Rattle.office_model.specs.BatchLines.{has_effect, after_change, after_changes, no_counts}
use Rattle.office_model.specs.declared.counts.Counts.{Counts}
use Rattle.office_enrolment.specs.AfterBatch.{lines_with_effect, after_batch, names_exam}
use Rattle.office_enrolment.specs.Rows.{RowKind, after_row, after_rows, pair_of}
use Rattle.office_enrolment.proofs.KeptLemmas.{Ascend, they_ascend}
use Rattle.office_enrolment.proofs.LineLemmas.{accepted, all_after, line_again, line_ascends, line_exams}
use Rattle.office_enrolment.proofs.PairRowLemmas.{is_other, pairs-with, pairs-without}

module _ {X : Type 0} (kind : RowKind X) where
  abbrev pub rows_of : Enrolled → List X
  rows_of E = map kind.row (pairs_of E)

  -- a row is added for a new pair
  row_comes : (s e : ℕ) (E : Enrolled) (rows : List X) → e < length E → has E s e ≡ false
      → IsPermutation rows (rows_of E)
      → IsPermutation (kind.row (record { exam = e; student = s }) ∷ rows)
      (rows_of (with_pair E s e))
  row_comes s e E rows lt absent are =
      let p : Pair = record { exam = e; student = s } in
      IsPermutation-trans (kind.row p ∷ rows) (kind.row p ∷ rows_of E) (rows_of (with_pair E s e))
      (IsPermutation-cons (kind.row p) rows (rows_of E) are)
      (IsPermutation-map kind.row (p ∷ pairs_of E) (pairs_of (with_pair E s e))
      (pairs-with s e 0 e E (omega arith) lt absent))

  -- a row is removed with its pair
  row_goes : (s e : ℕ) (E : Enrolled) (rows : List X) → IsPermutation rows (rows_of E)
      → IsPermutation (filter (λ r. not (kind.is_of s e r)) rows) (rows_of (without_pair E s e))
  row_goes s e E rows are =
      let stays : X → Bool = λ r. not (kind.is_of s e r) in
      let same : filter stays (rows_of E) ≡ rows_of (without_pair E s e)
      = filter-map stays kind.row (pairs_of E)
      ∙ ap (map kind.row)
      (filter_agree (λ p. stays (kind.row p)) (is_other s e) (λ p. ap not (kind.agrees s e p))
      (pairs_of E)
      ∙ pairs-without s e 0 e E (omega arith)) in
      subst (IsPermutation (filter stays rows)) same
      (IsPermutation-filter stays rows (rows_of E) are)

  -- one line that acts
  pub row_after : (change : Change) (E : Enrolled) (rows : List X) → change.exam < length E
      → has_effect change E ≡ true → IsPermutation rows (rows_of E)
      → IsPermutation (after_row kind change rows) (rows_of (after_change change E))
  row_after change E rows lt does are =
      let s = change.student in
      let e = change.exam in
      let stay : List X = filter (λ r. not (kind.is_of s e r)) rows in
      elim change.add as (λ b. (if b then not (has E s e) else has E s e) ≡ true
      → IsPermutation (if b then kind.row (pair_of change) ∷ rows else stay)
      (rows_of (if b then with_pair E s e else without_pair E s e))) [
        | true ↦ λ new. row_comes s e E rows lt (not-true (has E s e) new) are
        | false ↦ λ there. row_goes s e E rows are
      ] does

  -- the acting lines change the rows as all lines change the enrolments
  pub rows_after : (changes : List Change) (E : Enrolled) (rows : List X) → Ascend E
      → list_all (names_exam E) changes ≡ true → IsPermutation rows (rows_of E)
      → IsPermutation (after_rows kind (lines_with_effect changes E) rows) (rows_of (after_changes changes E))
  rows_after [] E rows up exist are = are
  rows_after (change ∷ changes) E rows up exist are =
      let F : Enrolled = after_change change E in
      let both = and_parts (names_exam E change) (list_all (names_exam E) changes) exist in
      let there : list_all (names_exam F) changes ≡ true
      = subst (λ (n : ℕ). list_all (λ (c : Change). nat_lt c.exam n) changes ≡ true)
      (sym (line_exams change E)) both.1 in
      let lines : List Change = lines_with_effect changes F in
      elim (has_effect change E) as (λ b. has_effect change E ≡ b
      → IsPermutation (after_rows kind (if b then change ∷ lines else lines) rows)
      (rows_of (after_changes changes F))) [
        | true ↦ λ does.
            rows_after changes F (after_row kind change rows) (line_ascends change E up) there
            (row_after change E rows (ltb-true change.exam (length E) both.0) does are)
        | false ↦ λ idle.
            rows_after changes F rows (line_ascends change E up) there
            (subst (λ G. IsPermutation rows (rows_of G)) (sym (line_again change E up idle)) are)
      ] refl

  -- the same for accepted lines
  pub rows_after_batch : (changes : List Change) (E : Enrolled) (done : Counts × Enrolled)
      (rows : List X) → AreEnrolments E → after_batch changes E ≡ Ok done
      → IsPermutation rows (rows_of E)
      → IsPermutation (after_rows kind (lines_with_effect changes E) rows) (rows_of done.1)
  rows_after_batch changes E done rows is judged are =
      let both = accepted changes E done judged in
      subst (λ F. IsPermutation (after_rows kind (lines_with_effect changes E) rows) (rows_of F))
      (sym (all_after changes E no_counts done both.1))
      (rows_after changes E rows (they_ascend E is) both.0 are)

-- pairs that are their own rows
pub same_pairs : (pairs : List Pair) → map (λ (p : Pair). p) pairs ≡ pairs
same_pairs [] = refl
same_pairs (p ∷ ps) = ap (λ (qs : List Pair). p ∷ qs) (same_pairs ps)

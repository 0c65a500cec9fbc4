-- Rows of enrolments, one after another.
use Rattle.std.proofs.lemmas.Grind.{common_steps}
use Rattle.std.proofs.Common.{◌≡◌, ◌≢◌, ℕ, suc, ◌<◌, inl, inr, Bool, true, false, ◌&&◌, eqb, Decides, List, [], ◌∷◌, ◌++◌, map, length, get_or, take, drop, refl, sym, ◌∙◌, ap, arith, subst}
use Rattle.std.specs.Prelude.{All, Contains}
use Rattle.std.specs.List.{AllByRecursion, list_any}
use Rattle.std.proofs.Math.Seq.{split_at}
use Rattle.std.proofs.lemmas.Bool.{false_from_ne_true}
use Rattle.std.proofs.lemmas.List.{length-map, length-take}
use Rattle.std.proofs.lemmas.List.Elements.{All-from_recursion}
use Rattle.std.proofs.lemmas.List.Folds.{Any-from_list_any, list_any_at}
use Rattle.std.proofs.lemmas.List.Sorted.{IsPermutation-sym, length_permutation, list_any-IsPermutation}
use Rattle.exam_lists.proofs.Chains.{IsChain, chain_before, chain_from_index, chain_map, chain_weaker, index_from_chain}
use Rattle.exam_lists.proofs.Each.{each_weaker}
use Rattle.exam_lists.proofs.Tests.{any_map}
use Rattle.exam_lists.proofs.Reordered.{reordered}
use Rattle.exam_lists.proofs.Permutations.{chain_permutation}
use Rattle.sqlite_keyed.proofs.ListLemmas.{any_from_none}
use Rattle.sqlite_trees.proofs.ListLemmas.{all-map, all-permutation}
use Rattle.exam_model.specs.Enrolments.{Adds, Enrolled, AreEnrolments, has, pair_count}
use Rattle.exam_model.specs.Instance.{Session}
use Rattle.exam_model.specs.Pairs.{Pair, pairs_of, ComesBefore}
use Rattle.exam_model.proofs.PairLemmas.{are_pairs, from_within}
use Rattle.office_tables.specs.declared.tables.enrol.EnrolRow.{EnrolRow}
use Rattle.office_records.specs.Found.{AreEnrolRows}
use Rattle.office_records.specs.NextRow.{IsNewPair}
use Rattle.office_records.specs.TableRows.{enrol_row}

-- ---- a row among rows

-- whether it is the row of s and e
abbrev pub is_row : ℕ → ℕ → EnrolRow → Bool
is_row s e row = eqb row.student s && eqb row.exam e

row_decides : (s e : ℕ) (row : EnrolRow)
    → Decides (is_row s e row) (row ≡ record { student = s; exam = e })
row_decides s e row = grind (arith, common_steps)

is_itself : (row : EnrolRow) → is_row row.student row.exam row ≡ true
is_itself row = (row_decides row.student row.exam row).1 refl

-- a row that is found among rows is one of them
contains_row : (s e : ℕ) (rows : List EnrolRow) → list_any (is_row s e) rows ≡ true
    → Contains rows (record { student = s; exam = e })
contains_row s e rows some =
    let found = Any-from_list_any (is_row s e) rows some in
    subst (Contains rows) ((row_decides s e found.1).0 found.4) (found.0, found.2, found.3)

-- ---- the rows of all pairs

abbrev rows_of : Enrolled → List EnrolRow
rows_of E = map enrol_row (pairs_of E)

module _ (E : Enrolled) (is : AreEnrolments E) where
  -- a pair's row is among them
  has_row : (s e : ℕ) → list_any (is_row s e) (rows_of E) ≡ has E s e
  has_row s e = any_map (is_row s e) enrol_row (pairs_of E) ∙ (are_pairs E is).members s e

  as_many : length (rows_of E) ≡ pair_count E
  as_many = length-map (pairs_of E) enrol_row ∙ (are_pairs E is).count

  -- no two rows are equal
  rows_apart : IsChain (λ x y. x ≢ y) (rows_of E)
  rows_apart =
      chain_map (λ x y. x ≢ y) enrol_row (pairs_of E)
      (chain_weaker ComesBefore (λ p q. enrol_row p ≢ enrol_row q) apart (pairs_of E)
      (chain_from_index ComesBefore (pairs_of E) (are_pairs E is).ordered))
    where
      apart : (p q : Pair) → ComesBefore p q → enrol_row p ≢ enrol_row q
      apart p q (inl less) same = omega (arith, less, ap (λ (r : EnrolRow). r.exam) same)
      apart p q (inr tie) same = omega (arith, tie.1, ap (λ (r : EnrolRow). r.student) same)

-- ---- rows read one by one

-- the enrolments of these rows, among n exams
pub record AreTaken (n : ℕ) (done : List EnrolRow) (E : Enrolled) : Type 0 where
  pub set : AreEnrolments E
  pub exams : length E ≡ n
  pub pairs : pair_count E ≡ length done
  pub members : (s e : ℕ) → has E s e ≡ list_any (is_row s e) done

-- one more row
pub taken_more : (n : ℕ) (done : List EnrolRow) (E F : Enrolled) (row : EnrolRow)
    → AreTaken n done E → IsNewPair E row → Adds E F row.student row.exam → AreEnrolments F
    → AreTaken n (done ++ row ∷ []) F
taken_more n done E F row taken fresh adds is = grind (arith, common_steps)

-- the rows are those of the enrolments
pub rows_taken : (I : Session) (rows : List EnrolRow) (E : Enrolled)
    → AreTaken (length I.exams) rows E → AreEnrolRows I rows E
rows_taken I rows E taken = record {
  enrolled = record {
    set = taken.set;
    exams = taken.exams;
  };
  rows = reordered (rows_of E) rows (omega (arith, as_many E taken.set, taken.pairs))
      (index_from_chain (λ x y. x ≢ y) (rows_of E) (rows_apart E taken.set)) inside;
}
  where
    inside : All (Contains rows) (rows_of E)
    inside k d within =
        let row = get_or (rows_of E) k d in
        contains_row row.student row.exam rows
        (sym (taken.members row.student row.exam) ∙ sym (has_row E taken.set row.student row.exam)
        ∙ list_any_at (is_row row.student row.exam) (rows_of E) k d within (is_itself row))

-- ---- rows that enrolments have

module _ (I : Session) (rows : List EnrolRow) (F : Enrolled) (are : AreEnrolRows I rows F) where
  apart : IsChain (λ x y. x ≢ y) rows
  apart =
      chain_permutation (λ (x y : EnrolRow). x ≢ y) (λ x y other same. other (sym same)) (rows_of F) rows
      (IsPermutation-sym rows (rows_of F) are.rows) (rows_apart F are.enrolled.set)

  each_exists : AllByRecursion (λ row. row.exam < length F) rows
  each_exists =
      all-permutation (λ (row : EnrolRow). row.exam < length F) (rows_of F) rows
      (IsPermutation-sym rows (rows_of F) are.rows)
      (all-map (λ (row : EnrolRow). row.exam < length F) enrol_row (pairs_of F)
      (from_within (length F) 0 F (omega arith)))

  -- each row is a new pair after those before it
  pub row_new : (i : ℕ) (d : EnrolRow) (E : Enrolled) → i < length rows
      → AreTaken (length I.exams) (take i rows) E → IsNewPair E (get_or rows i d)
  row_new i d E within taken =
      let row = get_or rows i d in
      let passes = is_row row.student row.exam in
      let set = are.enrolled.set in
      let sits : has F row.student row.exam ≡ true
      = sym (has_row F set row.student row.exam)
      ∙ sym (list_any-IsPermutation passes rows (rows_of F) are.rows)
      ∙ list_any_at passes rows i d within (is_itself row) in
      let exists = All-from_recursion (λ (row : EnrolRow). row.exam < length F) rows each_exists i d
      within in
      let others = chain_before (λ (x y : EnrolRow). x ≢ y) (take i rows) row (drop (suc i) rows)
      (subst (IsChain (λ (x y : EnrolRow). x ≢ y)) (split_at rows i d within) apart) in
      let long = length-take i rows in
      let pairs = length_permutation rows (rows_of F) are.rows in
      record {
        exam = omega (arith, exists, taken.exams, are.enrolled.exams);
        student = set.numbers row.exam row.student sits;
        lacking = taken.members row.student row.exam
            ∙ any_from_none passes (take i rows)
            (each_weaker (λ x. x ≢ row) (λ x. passes x ≡ false) (λ x other.
            false_from_ne_true (passes x)
            (λ is. other ((row_decides row.student row.exam x).0 is))) (take i rows) others);
        room = omega (arith, taken.pairs, pairs, as_many F set, set.pairs);
      }

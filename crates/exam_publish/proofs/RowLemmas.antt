-- The enrolments that rows are: their pairs are those of the rows.
use Rattle.std.proofs.lemmas.Grind.{common_steps}
use Rattle.std.specs.List.{list_any, AllByRecursion, range_with_len}
use Rattle.std.proofs.Common.{◌≡◌, ◌≢◌, ℕ, zero, suc, ◌+◌, ◌<◌, ◌≤◌, ◌⊎◌, inl, inr, Bool, true, eqb, List, [], ◌∷◌, ◌++◌, length, map, Some, All, refl, sym, ◌∙◌, ap, ap₂, subst, arith, eqb-true, rules}
use mathlib.Core.Bool.{true≢false}
use Rattle.std.proofs.lemmas.Bool.{and_from, cases_eq, cases_lt, eq-eqb, ne_eqb, or_right, or_left}
use Rattle.std.proofs.lemmas.List.{get_or_past, length-map}
use Rattle.std.proofs.lemmas.List.Elements.{All-from_recursion}
use Rattle.std.proofs.lemmas.List.FromFn.{length-map-range_with_len, get_or-map-range_with_len}
use Rattle.exam_lists.proofs.Chains.{IsChain, chain_weaker, index_from_chain}
use Rattle.exam_lists.proofs.Each.{each_weaker, each_map}
use Rattle.exam_lists.proofs.Tests.{any_map}
use Rattle.exam_model.specs.Enrolments.{Enrolled, AreEnrolments, AreNumbers, has_number, students}
use Rattle.exam_model.specs.Fits.{period_of}
use Rattle.exam_model.specs.Pairs.{is_pair, pairs_at, pairs_from, pairs_of}
use Rattle.exam_model.specs.Timetable.{Placing}
use Rattle.exam_model.proofs.PairLemmas.{are_pairs}
use Rattle.exam_score.specs.Regrouping.{periods_of, AreStudentsOf}
use Rattle.exam_publish.specs.declared.seat_row.SeatRow.{SeatRow}
use Rattle.exam_publish.specs.Rows.{row_pair, RowBefore, IsAtExam, students_in, enrolled_in}
use Rattle.exam_publish.specs.Changed.{rows_of, has_row, students_of}
use Rattle.exam_publish.proofs.ListLemmas.{has_ascending, chain_ascending, ascending_from_chain}
use Rattle.exam_publish.proofs.SeatingLemmas.{length_pairs}

-- ---- one more row

not_of : (r : SeatRow) (rs : List SeatRow) (e : ℕ) → (r.exam ≡ e → ⊥)
    → students_in (r ∷ rs) e ≡ students_in rs e
not_of r rs e other = grind (arith, common_steps, ne_eqb)

one_of : (r : SeatRow) (rs : List SeatRow) (e : ℕ) → r.exam ≡ e
    → students_in (r ∷ rs) e ≡ r.student ∷ students_in rs e
one_of r rs e same = grind (arith, common_steps, eq-eqb)

none_of : (rs : List SeatRow) (e : ℕ) → AllByRecursion (λ q. e < q.exam) rs → students_in rs e ≡ []
none_of [] e a = refl
none_of (q ∷ qs) e a = not_of q qs e (λ same. let h : e < q.exam = a.0 in absurd (omega arith))
    ∙ none_of qs e a.1

-- the lists of exams after that of the row don't change
others : (r : SeatRow) (rs : List SeatRow) (a n : ℕ) → r.exam < a
    → map (students_in (r ∷ rs)) (range_with_len a n) ≡ map (students_in rs) (range_with_len a n)
others r rs a zero lt = refl
others r rs a (suc n) lt =
    ap₂ (λ x xs. x ∷ xs) (not_of r rs a (λ same. omega arith)) (others r rs (a + 1) n (omega arith))

first_pair : (r : SeatRow) (rs : List SeatRow) (a n : ℕ) → AllByRecursion (λ q. r.exam ≤ q.exam) rs
    → a ≤ r.exam → r.exam < a + n
    → pairs_from a (map (students_in (r ∷ rs)) (range_with_len a n))
    ≡ row_pair r ∷ pairs_from a (map (students_in rs) (range_with_len a n))
first_pair r rs a zero above low high = absurd (omega arith)
first_pair r rs a (suc n) above low high =
    go (cases_eq r.exam a) (λ lt. first_pair r rs (a + 1) n above lt (omega arith))
  where
    go : (r.exam ≡ a) ⊎ (r.exam ≡ a → ⊥)
        → (a + 1 ≤ r.exam
        → pairs_from (a + 1) (map (students_in (r ∷ rs)) (range_with_len (a + 1) n))
        ≡ row_pair r ∷ pairs_from (a + 1) (map (students_in rs) (range_with_len (a + 1) n)))
        → pairs_at a (students_in (r ∷ rs) a)
        ++ pairs_from (a + 1) (map (students_in (r ∷ rs)) (range_with_len (a + 1) n))
        ≡ row_pair r
        ∷ (pairs_at a (students_in rs a)
        ++ pairs_from (a + 1) (map (students_in rs) (range_with_len (a + 1) n)))
    go (inl same) more = grind (arith, common_steps, one_of, others)
    go (inr other) more = grind (arith, common_steps, none_of, each_weaker, not_of)

no_pairs : (a n : ℕ) → pairs_from a (map (students_in []) (range_with_len a n)) ≡ []
no_pairs a zero = refl
no_pairs a (suc n) = no_pairs (a + 1) n

not_above : (r q : SeatRow) → RowBefore r q → r.exam ≤ q.exam
not_above r q h = elim h as (λ _. r.exam ≤ q.exam)
    [ inl less ↦ omega arith | inr same ↦ omega (arith, same.0) ]

-- the pairs of the enrolments that rows are
pub pairs_in : (n : ℕ) (rows : List SeatRow) → IsChain RowBefore rows
    → AllByRecursion (λ row. row.exam < n) rows → pairs_of (enrolled_in n rows) ≡ map row_pair rows
pairs_in n [] order exist = no_pairs 0 n
pairs_in n (r ∷ rs) order exist =
    grind (arith, common_steps, first_pair, each_weaker, not_above, pairs_in n rs order.1 exist.1)

-- ---- each exam's students ascend

above_students : (r : SeatRow) (rs : List SeatRow) (e : ℕ) → r.exam ≡ e
    → AllByRecursion (RowBefore r) rs → AllByRecursion (λ y. r.student < y) (students_in rs e)
above_students r [] e same a = tt
above_students r (q ∷ qs) e same a = grind (arith, common_steps, eqb-true, above_students r qs e same a.1)

chain_students : (rows : List SeatRow) (e : ℕ) → IsChain RowBefore rows
    → IsChain (λ x y. x < y) (students_in rows e)
chain_students [] e h = tt
chain_students (r ∷ rs) e h = grind (arith, common_steps, above_students, eqb-true, chain_students rs e h.1)

pub students_at : (n : ℕ) (rows : List SeatRow) (e : ℕ) → e < n
    → students (enrolled_in n rows) e ≡ students_in rows e
students_at n rows e lt = get_or-map-range_with_len (students_in rows) 0 n e e [] lt (omega arith)

-- the students of an exam have the numbers that those of the rows have
numbers_in : (rows : List SeatRow) (e : ℕ) → AllByRecursion (λ row. row.student ≤ 999999999) rows
    → AreNumbers (students_in rows e)
numbers_in [] e h = λ s is. absurd (true≢false (sym is))
numbers_in (r ∷ rs) e h = grind (arith, common_steps, cases_eq, ne_eqb, numbers_in rs e h.1)

none_past : (n : ℕ) (rows : List SeatRow) (e : ℕ) → n ≤ e → students (enrolled_in n rows) e ≡ []
none_past n rows e past = grind (arith, get_or_past, length-map-range_with_len)

numbered_enrolments : (n : ℕ) (rows : List SeatRow) (e : ℕ)
    → AllByRecursion (λ row. row.student ≤ 999999999) rows
    → AreNumbers (students (enrolled_in n rows) e)
numbered_enrolments n rows e h = grind (arith, common_steps, cases_lt, students_at, numbers_in, none_past)

-- rows of pairs of enrolments have their numbers
pub rows_numbered : (E : Enrolled) (rows : List SeatRow) → AreEnrolments E
    → map row_pair rows ≡ pairs_of E → AllByRecursion (λ row. row.student ≤ 999999999) rows
rows_numbered E rows known pairs =
    each rows (λ s e is. known.numbers e s
    (sym ((are_pairs E known).members s e) ∙ ap (list_any (is_pair s e)) (sym pairs) ∙ is))
  where
    each : (rows : List SeatRow)
        → ((s e : ℕ) → list_any (is_pair s e) (map row_pair rows) ≡ true → s ≤ 999999999)
        → AllByRecursion (λ row. row.student ≤ 999999999) rows
    each [] h = tt
    each (r ∷ rs) h = (
      h r.student r.exam
          (or_left (is_pair r.student r.exam (row_pair r))
          (list_any (is_pair r.student r.exam) (map row_pair rs))
          (and_from (eqb r.student r.student) (eqb r.exam r.exam) (eq-eqb r.student r.student refl)
          (eq-eqb r.exam r.exam refl))),
      each rs (λ s e is.
          h s e (or_right (is_pair s e (row_pair r))
          (list_any (is_pair s e) (map row_pair rs)) is)),
    )

pub are_enrolments : (n : ℕ) (rows : List SeatRow) → 1 ≤ n → n ≤ 2000 → length rows ≤ 200000
    → IsChain RowBefore rows → AllByRecursion (λ row. row.exam < n) rows
    → AllByRecursion (λ row. row.student ≤ 999999999) rows → AreEnrolments (enrolled_in n rows)
are_enrolments n rows low high few order exist numbered =
    search (
      rules,
      length-map-range_with_len,
      pairs_in,
      length_pairs,
      length-map,
      students_at,
      ascending_from_chain,
      chain_students,
      numbered_enrolments,
    )

-- ---- the students of the rows

each_in : (rows : List SeatRow) → AllByRecursion (λ row. has_row rows row.student ≡ true) rows
each_in [] = tt
each_in (r ∷ rs) = grind (arith, common_steps, or_left, eq-eqb, each_weaker, or_right, each_in rs)

pub are_students : (n : ℕ) (rows : List SeatRow) → pairs_of (enrolled_in n rows) ≡ map row_pair rows
    → AreStudentsOf (enrolled_in n rows) (students_of rows)
are_students n rows pairs = record {
  once = index_from_chain (λ s t. s ≢ t) (students_of rows)
      (chain_weaker (λ x y. x < y) (λ s t. s ≢ t) (λ x y h e. omega arith) (students_of rows)
      (chain_ascending (map (λ row. row.student) rows)));
  all = subst (All (λ p. has_number (students_of rows) p.student ≡ true)) (sym pairs)
      (All-from_recursion (λ p. has_number (students_of rows) p.student ≡ true) (map row_pair rows)
      (each_map (λ p. has_number (students_of rows) p.student ≡ true) row_pair rows
      (each_weaker (λ row. has_row rows row.student ≡ true)
      (λ row. has_number (students_of rows) row.student ≡ true)
      (λ row h. has_ascending (map (λ row. row.student) rows) row.student
      ∙ any_map (λ t. eqb t row.student) (λ row. row.student) rows ∙ h) rows
      (each_in rows))));
}

-- ---- the periods of a student's rows

pub candidate_periods : (T : Placing) (rows : List SeatRow) (s : ℕ)
    → AllByRecursion (IsAtExam T) rows
    → periods_of (map row_pair rows) (period_of T) s ≡ map (λ row. row.period) (rows_of s rows)
candidate_periods T [] s h = refl
candidate_periods T (r ∷ rs) s h = grind (arith, candidate_periods T rs s h.1)

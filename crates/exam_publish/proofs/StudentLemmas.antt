-- Rows in the order of their students, one student's rows at a time.
use Rattle.std.proofs.lemmas.Grind.{common_steps}
use Rattle.std.specs.List.{AllByRecursion}
use Rattle.std.specs.List.Sorted.{ties, IsSortedByKey, IsStableByKey}
use Rattle.std.specs.Ordering.{is_lt, nat_cmp}
use Rattle.std.proofs.Common.{◌≡◌, ℕ, zero, suc, ◌+◌, ◌<◌, ◌≤◌, inl, inr, Bool, true, false, cond, ◌||◌, eqb, List, [], ◌∷◌, ◌++◌, length, take, drop, map, get_or, AllPairs, IsPermutation, refl, sym, ◌∙◌, ap, ap₂, subst, arith, eqb-true, take-append-drop, append-nil, rules}
use Rattle.std.proofs.lemmas.Bool.{cases_eq, eq-eqb, ne_eqb}
use Rattle.std.proofs.lemmas.List.{get_or-take, get_or-drop, length-map, length-take, length-drop, append_assoc}
use Rattle.std.proofs.lemmas.List.Elements.{filter-append, filter_agree, recursion_from_All}
use Rattle.std.proofs.lemmas.List.Folds.{list_any-append}
use Rattle.std.proofs.lemmas.List.Sorted.{list_any-IsPermutation, IsNonDecreasingBy-from_sort}
use Rattle.exam_lists.proofs.Chains.{IsChain, chain_from_index, chain_length}
use Rattle.exam_lists.proofs.Each.{each_weaker, each_filter}
use Rattle.exam_lists.proofs.Tests.{any_map}
use Rattle.exam_lists.proofs.Orders.{neither_less}
use Rattle.exam_model.specs.Changes.{with_student}
use Rattle.exam_model.specs.Enrolments.{has_number}
use Rattle.exam_model.specs.Instance.{Session}
use Rattle.exam_model.specs.Timetable.{Placing}
use Rattle.exam_model.proofs.SameSet.{same_list}
use Rattle.exam_model.proofs.StudentLemmas.{each_with, with_cases}
use Rattle.exam_score.specs.Penalty.{PersonalPenalty}
use Rattle.exam_publish.specs.declared.seat_row.SeatRow.{SeatRow}
use Rattle.exam_publish.specs.Changed.{rows_of, has_row, students_of}
use Rattle.exam_publish.specs.Groups.{AreSorted, IsRun, shares_in}
use Rattle.exam_publish.specs.Rows.{RowBefore, ArePublishedRows}
use Rattle.exam_publish.specs.Shares.{share_of, student_shares}
use Rattle.exam_publish.proofs.ListLemmas.{has_ascending, ascends}
use Rattle.exam_publish.proofs.PlaceLemmas.{rows_exist}

-- ---- a stable sort by student

row_like : ℕ → SeatRow
row_like s = record { student = s; exam = 0; period = 0; room = 0; seat = 0 }

has_student_of : (rows : List SeatRow) (s : ℕ) → has_number (students_of rows) s ≡ has_row rows s
has_student_of rows s = has_ascending (map (λ row. row.student) rows) s
    ∙ any_map (λ t. eqb t s) (λ row. row.student) rows

pub are_sorted : (rows sorted : List SeatRow) → IsPermutation rows sorted
    → IsSortedByKey (λ (row : SeatRow). row.student) nat_cmp sorted
    → IsStableByKey (λ (row : SeatRow). row.student) nat_cmp rows sorted → AreSorted rows sorted
unfolding row_like
are_sorted rows sorted moved up stable = record {
  by_student =
      λ i j d l m.
      IsNonDecreasingBy-from_sort (λ (row : SeatRow). row.student) sorted up i j d (omega arith) m;
  same = λ s. sym
      (filter_agree (ties (λ (x : SeatRow) y. is_lt (nat_cmp x.student y.student)) (row_like s))
      (λ row. eqb row.student s) (λ row. neither_less s row.student) sorted)
      ∙ stable (row_like s)
      ∙ filter_agree (ties (λ (x : SeatRow) y. is_lt (nat_cmp x.student y.student)) (row_like s))
      (λ row. eqb row.student s) (λ row. neither_less s row.student) rows;
  students = same_list (students_of sorted) (students_of rows)
      (ascends (map (λ row. row.student) sorted)) (ascends (map (λ row. row.student) rows))
      (λ s. has_student_of sorted s
      ∙ sym (list_any-IsPermutation (λ (row : SeatRow). eqb row.student s) rows sorted moved)
      ∙ sym (has_student_of rows s));
}

-- ---- the rows of the first student

own_rows : (rows : List SeatRow) (s n : ℕ) → IsRun rows s n
    → AllByRecursion (λ row. row.student ≡ s) (take n rows)
own_rows rows s n run = grind (arith, common_steps, recursion_from_All, length-take, get_or-take)

-- the first row is one of them
pub some_own : (rows : List SeatRow) (r : SeatRow) (n : ℕ) → r ≡ get_or rows 0 r → 0 < length rows
    → IsRun rows r.student n → 0 < n
some_own rows r zero is some run =
    absurd (run.other r some (ap (λ (row : SeatRow). row.student) (sym is)))
some_own rows r (suc n) is some run = omega arith

other_rows : (rows : List SeatRow) (r : SeatRow) (n : ℕ)
    → AllPairs (λ row other. row.student ≤ other.student) rows → r ≡ get_or rows 0 r
    → 0 < length rows
    → IsRun rows r.student n → AllByRecursion (λ row. r.student < row.student) (drop n rows)
other_rows rows r n up is some run =
    recursion_from_All (λ row. r.student < row.student) (drop n rows)
    (λ k d lt. (let l = length-drop n rows in
    let first : n < length rows = omega arith in
    let within : n + k < length rows = omega arith in
    let positive = some_own rows r n is some run in
    let apart = run.other d first in
    let own = run.own 0 d positive in
    let least : (get_or rows 0 d).student ≤ (get_or rows n d).student = up 0 n d positive first in
    let here : r.student < (get_or rows n d).student = grind (arith, common_steps, cases_eq) in
    let later : (get_or rows n d).student ≤ (get_or rows (n + k) d).student =
    further n k d within in
    subst (λ (row : SeatRow). r.student < row.student) (sym (get_or-drop n rows k d))
    (let h : r.student < (get_or rows (n + k) d).student = omega arith in h)))
  where
    further : (n k : ℕ) (d : SeatRow) → n + k < length rows
        → (get_or rows n d).student ≤ (get_or rows (n + k) d).student
    further n zero d lt = let same : n + 0 ≡ n = omega arith in rw same (omega arith)
    further n (suc k) d lt = up n (n + suc k) d (omega arith) lt

rows_all : (s : ℕ) (xs : List SeatRow) → AllByRecursion (λ row. row.student ≡ s) xs
    → rows_of s xs ≡ xs
rows_all s [] a = refl
rows_all s (x ∷ xs) a = grind (arith, rows_all s xs a.1, eq-eqb)

rows_none : (s : ℕ) (xs : List SeatRow) → AllByRecursion (λ row. row.student ≡ s → ⊥) xs
    → rows_of s xs ≡ []
rows_none s [] a = refl
rows_none s (x ∷ xs) a =
    ap (λ b. cond b (x ∷ rows_of s xs) (rows_of s xs)) (ne_eqb x.student s a.0) ∙ rows_none s xs a.1

-- ---- the numbers of the students

each_ascending : (P : ℕ → Type 0) (xs : List SeatRow) → AllByRecursion (λ row. P row.student) xs
    → AllByRecursion P (students_of xs)
each_ascending P [] a = tt
each_ascending P (x ∷ xs) a = each_with P x.student (students_of xs) a.0 (each_ascending P xs a.1)

with_first : (s : ℕ) (xs : List ℕ) → AllByRecursion (λ x. s < x) xs → with_student s xs ≡ s ∷ xs
with_first s [] a = refl
with_first s (x ∷ xs) a = grind (arith, common_steps, with_cases)

with_again : (s : ℕ) (xs : List ℕ) → with_student s (s ∷ xs) ≡ s ∷ xs
with_again s xs = grind (arith, common_steps, with_cases)

-- one student's rows before those of greater ones
run_first : (s : ℕ) (x : SeatRow) (own later : List SeatRow)
    → AllByRecursion (λ row. row.student ≡ s) (x ∷ own)
    → AllByRecursion (λ row. s < row.student) later
    → students_of ((x ∷ own) ++ later) ≡ s ∷ students_of later
run_first s x [] later a b = ap (λ t. with_student t (students_of later)) a.0
    ∙ with_first s (students_of later) (each_ascending (λ t. s < t) later b)
run_first s x (y ∷ own) later a b = grind (arith, run_first s y own later a.1 b, with_again)

run_students : (s : ℕ) (own later : List SeatRow) → 0 < length own
    → AllByRecursion (λ row. row.student ≡ s) own → AllByRecursion (λ row. s < row.student) later
    → students_of (own ++ later) ≡ s ∷ students_of later
run_students s [] later some a b = absurd (omega arith)
run_students s (x ∷ own) later some a b = run_first s x own later a b

-- ---- the walk

pub record IsShared (I : Session) (rows : List SeatRow) (shares : List (ℕ × PersonalPenalty))
    (rest : List SeatRow) : Type 0 where
  pub shared : shares ++ shares_in I rows (students_of rest) ≡ student_shares I rows
  pub by_student : AllPairs (λ row other. row.student ≤ other.student) rest
  pub whole : (s : ℕ) → has_row rest s ≡ true → rows_of s rest ≡ rows_of s rows

pub start : (I : Session) (rows sorted : List SeatRow) (shares : List (ℕ × PersonalPenalty))
    → shares ≡ [] → AreSorted rows sorted → IsShared I rows shares sorted
start I rows sorted shares none are = grind (arith, common_steps)

-- the first run of rows has all rows of its student
pub own_is : (I : Session) (rows rest : List SeatRow) (shares : List (ℕ × PersonalPenalty))
    (r : SeatRow) (n : ℕ)
    → IsShared I rows shares rest
    → r ≡ get_or rest 0 r → 0 < length rest → IsRun rest r.student n
    → take n rest ≡ rows_of r.student rows
own_is I rows rest shares r n was is some run =
    let own = own_rows rest r.student n run in
    let later = other_rows rest r n was.by_student is some run in
    sym (rows_all r.student (take n rest) own)
    ∙ sym (append-nil (rows_of r.student (take n rest)))
    ∙ ap (λ xs. rows_of r.student (take n rest) ++ xs)
    (sym (rows_none r.student (drop n rest)
    (each_weaker (λ row. r.student < row.student) (λ row. row.student ≡ r.student → ⊥)
    (λ row h e. omega arith) (drop n rest) later)))
    ∙ sym (filter-append (λ row. eqb row.student r.student) (take n rest) (drop n rest))
    ∙ ap (rows_of r.student) (take-append-drop n rest)
    ∙ was.whole r.student (has_first rest some is)
  where
    has_first : (xs : List SeatRow) → 0 < length xs → r ≡ get_or xs 0 r
        → has_row xs r.student ≡ true
    has_first [] l e = absurd (omega arith)
    has_first (x ∷ xs) l e = grind (arith, eq-eqb)

no_row : (s : ℕ) (xs : List SeatRow) → AllByRecursion (λ row. row.student ≡ s → ⊥) xs
    → has_row xs s ≡ false
no_row s [] a = refl
no_row s (x ∷ xs) a = ap₂ (λ a b. a || b) (ne_eqb x.student s a.0) (no_row s xs a.1)

-- one more student
pub shared_more : (I : Session) (rows rest : List SeatRow)
    (shares more : List (ℕ × PersonalPenalty)) (r : SeatRow) (n : ℕ)
    → IsShared I rows shares rest
    → r ≡ get_or rest 0 r → 0 < length rest → IsRun rest r.student n
    → more ≡ shares ++ (r.student, share_of I.periods I.weights (rows_of r.student rows)) ∷ []
    → IsShared I rows more (drop n rest)
shared_more I rows rest shares more r n was is some run added =
    let s = r.student in
    let own = own_rows rest s n run in
    let later = other_rows rest r n was.by_student is some run in
    let long = length-take n rest in
    let positive = some_own rest r n is some run in
    let students : students_of rest ≡ s ∷ students_of (drop n rest)
    = ap students_of (sym (take-append-drop n rest))
    ∙ run_students s (take n rest) (drop n rest) (omega arith) own later in
    record {
      shared = grind (arith, common_steps, append_assoc);
      by_student = search (rules, get_or-drop, length-drop);
      whole = λ t h. elim (cases_eq t s) as (λ _. rows_of t (drop n rest) ≡ rows_of t rows) [
        | inl same ↦
            absurd (none_later t h
            (each_weaker (λ row. s < row.student) (λ row. row.student ≡ t → ⊥)
            (λ row k e. omega arith) (drop n rest) later))
        | inr other ↦ ap (λ xs. xs ++ rows_of t (drop n rest))
            (sym (rows_none t (take n rest)
            (each_weaker (λ row. row.student ≡ s) (λ row. row.student ≡ t → ⊥)
            (λ row k e. other (sym e ∙ k)) (take n rest) own)))
            ∙ sym (filter-append (λ row. eqb row.student t) (take n rest) (drop n rest))
            ∙ ap (rows_of t) (take-append-drop n rest)
            ∙ was.whole t (ap (λ xs. has_row xs t) (sym (take-append-drop n rest))
            ∙ list_any-append (λ row. eqb row.student t) (take n rest) (drop n rest)
            ∙ ap (λ b. has_row (take n rest) t || b) h ∙ or_true (has_row (take n rest) t))
      ];
    }
  where
    or_true : (b : Bool) → (b || true) ≡ true
    or_true true = refl
    or_true false = refl

    none_later : (t : ℕ) → has_row (drop n rest) t ≡ true
        → AllByRecursion (λ row. row.student ≡ t → ⊥) (drop n rest) → ⊥
    none_later t h a = grind (arith, common_steps, no_row)

-- ---- no student has more rows than there are exams

later_exams : (r : SeatRow) (rs : List SeatRow) (s : ℕ) → r.student ≡ s
    → AllByRecursion (RowBefore r) rs
    → AllByRecursion (λ e. r.exam < e) (map (λ row. row.exam) (rows_of s rs))
later_exams r [] s same a = tt
later_exams r (q ∷ qs) s same a = grind (arith, common_steps, eqb-true, later_exams r qs s same a.1)

candidate_exams : (rows : List SeatRow) (s : ℕ) → IsChain RowBefore rows
    → IsChain (λ x y. x < y) (map (λ row. row.exam) (rows_of s rows))
candidate_exams [] s h = tt
candidate_exams (r ∷ rs) s h = grind (arith, common_steps, later_exams, eqb-true, candidate_exams rs s h.1)

pub few_rows : (I : Session) (rows : List SeatRow) (T : Placing) (s : ℕ) → ArePublishedRows I rows T
    → length I.exams ≤ 2000 → length (rows_of s rows) ≤ 2000
few_rows I rows T s are few =
    let exams = map (λ (row : SeatRow). row.exam) (rows_of s rows) in
    let all = each_filter (λ row. row.exam < length I.exams) (λ row. eqb row.student s) rows
    (rows_exist I rows T are) in
    let bound = chain_length 0 (length I.exams) exams (omega arith)
    (candidate_exams rows s (chain_from_index RowBefore rows are.in_order)) (each_low exams)
    (to_exams (rows_of s rows) all) in
    omega (arith, length-map (rows_of s rows) (λ (row : SeatRow). row.exam))
  where
    each_low : (xs : List ℕ) → AllByRecursion (λ x. 0 ≤ x) xs
    each_low [] = tt
    each_low (x ∷ xs) = (omega arith, each_low xs)

    to_exams : (xs : List SeatRow) → AllByRecursion (λ row. row.exam < length I.exams) xs
        → AllByRecursion (λ x. x < length I.exams) (map (λ row. row.exam) xs)
    to_exams [] a = tt
    to_exams (x ∷ xs) a = (a.0, to_exams xs a.1)

-- The rows of some of the students, and the shares of these students.
use Rattle.std.proofs.lemmas.Grind.{common_steps}
use Rattle.std.proofs.Common.{◌≡◌, ℕ, ◌<◌, ◌≤◌, ◌^◌, inl, inr, Bool, true, ◌&&◌, eqb, Result, Ok, Err, List, [], ◌∷◌, length, get_or, nat_cmp, map, filter, refl, sym, ◌∙◌, ap, arith, rules, is_ok}
use Rattle.std.specs.List.Sorted.{IsBinarySearchResult}
use Rattle.std.proofs.lemmas.Bool.{cases_lt, eq-eqb, ne_eqb, true≢false}
use Rattle.std.proofs.lemmas.List.{get_or_default}
use Rattle.std.proofs.lemmas.List.Elements.{All-from_recursion, recursion_from_All}
use Rattle.std.proofs.lemmas.List.Folds.{list_any_at, list_any_none}
use Rattle.std.proofs.lemmas.List.Sorted.{searched}
use Rattle.exam_lists.proofs.Chains.{chain_from_index, chain_filter, index_from_chain}
use Rattle.exam_lists.proofs.Each.{each_filter}
use Rattle.exam_lists.proofs.Filters.{filter-map, length_filter-le, map_filter_agree}
use Rattle.exam_lists.proofs.Sums.{sum_by-filter-le}
use Rattle.exam_model.specs.Enrolments.{IsAscending, has_number}
use Rattle.exam_model.specs.Instance.{Session}
use Rattle.exam_model.specs.Timetable.{Placing}
use Rattle.exam_model.proofs.SameSet.{same_list}
use Rattle.exam_score.specs.Penalty.{PersonalPenalty, personal_total}
use Rattle.exam_publish.specs.declared.seat_row.SeatRow.{SeatRow}
use Rattle.exam_publish.specs.AddUp.{AreSmall, share_total}
use Rattle.exam_publish.specs.Changed.{sorted_numbers, rows_among, rows_of, students_of}
use Rattle.exam_publish.specs.Rows.{ArePublishedRows}
use Rattle.exam_publish.specs.Shares.{shares_among, shares_of, student_shares}
use Rattle.exam_publish.proofs.ListLemmas.{ascending_from_chain, ascends, chain_ascending, has_ascending, has_filter}
use Rattle.exam_publish.proofs.ShareLemmas.{small_shares}

-- ---- filtered lists

-- ---- a search among students

rise : (xs : List ℕ) → IsAscending xs → (i j : ℕ) → i ≤ j → j < length xs
    → get_or xs i 0 ≤ get_or xs j 0
rise xs up i j le lt = grind (arith, up i j, λ (same : i ≡ j). ap (λ k. get_or xs k 0) same)

-- a search finds a student exactly if they are there
pub has_searched : (xs : List ℕ) (x : ℕ) (r : Result ℕ ℕ) → IsAscending xs
    → IsBinarySearchResult (λ y. nat_cmp y x) xs r → is_ok r ≡ has_number xs x
has_searched xs x (Ok at) up is =
    let found = searched xs x (Ok at) is (rise xs up) in
    sym (list_any_at (λ t. eqb t x) xs at 0 found.0 (eq-eqb _ _ found.1))
has_searched xs x (Err at) up is =
    let gap = searched xs x (Err at) is (rise xs up) in
    sym (list_any_none (λ t. eqb t x) xs (λ k d lt.
    rw (get_or_default xs k d 0 lt) (elim (cases_lt k at) [
      | inl below ↦ ne_eqb _ _ (omega (arith, gap.1 k below))
      | inr above ↦ ne_eqb _ _ (omega (arith, gap.2 k above lt))
    ])))

-- ---- the rows of some students

-- they are published rows too
pub among_published : (I : Session) (rows : List SeatRow) (T : Placing) (students : List ℕ)
    → ArePublishedRows I rows T → ArePublishedRows I (rows_among students rows) T
among_published I rows T students are =
    search (
      rules,
      All-from_recursion,
      chain_filter,
      chain_from_index,
      each_filter,
      index_from_chain,
      length_filter-le,
      recursion_from_All,
    )

students_among : (rows : List SeatRow) (students : List ℕ)
    → students_of (rows_among students rows) ≡ filter (has_number students) (students_of rows)
students_among rows students =
    let p = has_number students in
    let numbers : List ℕ = map (λ row. row.student) rows in
    ap sorted_numbers (sym (filter-map p (λ (row : SeatRow). row.student) rows))
    ∙ same_list (sorted_numbers (filter p numbers)) (filter p (sorted_numbers numbers))
    (ascends (filter p numbers))
    (ascending_from_chain (filter p (sorted_numbers numbers))
    (chain_filter (λ x y. x < y) p (sorted_numbers numbers) (chain_ascending numbers)))
    (λ t. has_ascending (filter p numbers) t ∙ has_filter p numbers t
    ∙ ap (λ b. p t && b) (sym (has_ascending numbers t))
    ∙ sym (has_filter p (sorted_numbers numbers) t))

own_among : (students : List ℕ) (s : ℕ) → has_number students s ≡ true → (rows : List SeatRow)
    → rows_of s (rows_among students rows) ≡ rows_of s rows
own_among students s h [] = refl
own_among students s h (r ∷ rs) = grind (arith, common_steps, true≢false, ne_eqb, own_among students s h rs)

-- their shares are those of all rows
pub among_shares : (I : Session) (rows : List SeatRow) (students : List ℕ)
    → student_shares I (rows_among students rows)
    ≡ filter (λ share. has_number students share.0) (student_shares I rows)
among_shares I rows students =
    grind (arith, filter-map, map_filter_agree, own_among, students_among)

-- some of the shares are small if all are
pub among_small : (I : Session) (rows : List SeatRow) (T : Placing) (students : List ℕ) (n : ℕ)
    → n ≡ 2 ^ 62 → share_total (shares_of I rows T) < n → AreSmall (shares_among I rows T students)
among_small I rows T students n is small =
    small_shares n is (shares_among I rows T students)
    (let less = sum_by-filter-le (λ (share : ℕ × PersonalPenalty). personal_total share.1)
    (λ share. has_number students share.0) (student_shares I rows) in
    omega arith)

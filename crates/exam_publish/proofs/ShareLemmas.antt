-- Shares are small, belong to the students of the rows, and don't change if the rows don't.
use Rattle.std.proofs.lemmas.Grind.{common_steps}
use Rattle.std.specs.List.{AllByRecursion}
use Rattle.std.proofs.Common.{◌≡◌, ℕ, ◌+◌, ◌<◌, ◌≤◌, ◌^◌, true, false, ◌&&◌, List, [], ◌∷◌, length, map, All, refl, sym, ap, ap₂, subst, arith, eqb-true}
use Rattle.std.proofs.lemmas.Bool.{and_parts, not-false}
use Rattle.std.proofs.lemmas.List.Elements.{All-from_recursion, recursion_from_All}
use Rattle.std.proofs.lemmas.List.FromFn.{length-map-range_with_len}
use Rattle.exam_lists.proofs.Chains.{chain_from_index}
use Rattle.exam_lists.proofs.Sums.{each_below_sum}
use Rattle.exam_lists.proofs.Tests.{any_map}
use Rattle.exam_model.specs.Enrolments.{Enrolled, IsAscending, has_number}
use Rattle.exam_model.specs.Instance.{Session, IsInstance}
use Rattle.exam_model.specs.Timetable.{Placing}
use Rattle.exam_score.specs.Penalty.{PersonalPenalty}
use Rattle.exam_score.specs.Track.{track}
use Rattle.exam_score.proofs.SmallLemmas.{penalty_small}
use Rattle.exam_publish.specs.declared.seat_row.SeatRow.{SeatRow}
use Rattle.exam_publish.specs.AddUp.{AddUpTo, AreSmall, share_total}
use Rattle.exam_publish.specs.Changed.{rows_of, has_row, same_row, same_rows, is_changed, students_of}
use Rattle.exam_publish.specs.Rows.{RowBefore, AreNumbered, ArePublishedRows, students_in, enrolled_in}
use Rattle.exam_publish.specs.Shares.{Sharing, share_of, student_shares}
use Rattle.exam_publish.proofs.ListLemmas.{ascends, has_ascending}
use Rattle.exam_publish.proofs.PlaceLemmas.{rows_exist}
use Rattle.exam_publish.proofs.RowLemmas.{are_enrolments}

-- ---- rows that stay

equal_row : (r q : SeatRow) → same_row r q ≡ true → r ≡ q
equal_row r q h = grind (arith, and_parts, eqb-true)

equal_rows : (rs qs : List SeatRow) → same_rows rs qs ≡ true → rs ≡ qs
equal_rows [] [] h = refl
equal_rows [] (q ∷ qs) h = cc
equal_rows (r ∷ rs) [] h = cc
equal_rows (r ∷ rs) (q ∷ qs) h =
    let parts = and_parts (same_row r q) (same_rows rs qs) h in
    ap₂ (λ x xs. x ∷ xs) (equal_row r q parts.0) (equal_rows rs qs parts.1)

pub same_share : (I : Session) (old new : List SeatRow) (s : ℕ) → is_changed old new s ≡ false
    → share_of I.periods I.weights (rows_of s old) ≡ share_of I.periods I.weights (rows_of s new)
same_share I old new s h =
    ap (share_of I.periods I.weights)
    (equal_rows (rows_of s old) (rows_of s new)
    (not-false (same_rows (rows_of s old) (rows_of s new)) h))

-- ---- the students with a share

firsts : (f : ℕ → PersonalPenalty) (xs : List ℕ)
    → map (λ (share : ℕ × PersonalPenalty). share.0) (map (λ s. (s, f s)) xs) ≡ xs
firsts f [] = refl
firsts f (x ∷ xs) = ap (λ ys. x ∷ ys) (firsts f xs)

sharing : (I : Session) (rows : List SeatRow)
    → map (λ (share : ℕ × PersonalPenalty). share.0) (student_shares I rows) ≡ students_of rows
sharing I rows = firsts (λ s. share_of I.periods I.weights (rows_of s rows)) (students_of rows)

pub shares_ascend : (I : Session) (rows : List SeatRow)
    → IsAscending (map (λ (share : ℕ × PersonalPenalty). share.0) (student_shares I rows))
shares_ascend I rows =
    subst IsAscending (sym (sharing I rows)) (ascends (map (λ (row : SeatRow). row.student) rows))

pub shares_seated : (I : Session) (rows : List SeatRow) (s : ℕ)
    → has_number (map (λ (share : ℕ × PersonalPenalty). share.0) (student_shares I rows)) s
    ≡ has_row rows s
shares_seated I rows s = grind (arith, common_steps, sharing, has_ascending, any_map)

-- ---- how much

pub small_shares : (n : ℕ) → n ≡ 2 ^ 62 → (shares : Sharing) → share_total shares < n
    → AreSmall shares
small_shares n is shares h = grind (arith, common_steps, All-from_recursion, each_below_sum)

pub published_small : (I : Session) (rows : List SeatRow) (T : Placing) (shares : Sharing)
    → IsInstance I → ArePublishedRows I rows T → AreNumbered rows
    → AddUpTo (track I (enrolled_in (length I.exams) rows) T) shares → AreSmall shares
published_small I rows T shares known are numbered adds =
    let n = length I.exams in
    let E : Enrolled = enrolled_in n rows in
    let made = are_enrolments n rows (omega (arith, known.limits.counts.0.0))
    (omega (arith, known.limits.counts.0.1)) are.few
    (chain_from_index RowBefore rows are.in_order) (rows_exist I rows T are)
    (recursion_from_All (λ (row : SeatRow). row.student ≤ 999999999) rows numbered) in
    let small = penalty_small I E T known made
    (record { enrolments = length-map-range_with_len (students_in rows) 0 n; timetable = are.exams; places = are.places }) in
    small_shares (2 ^ 62) refl shares (subst (λ k. k < 2 ^ 62) (sym adds.total) small)

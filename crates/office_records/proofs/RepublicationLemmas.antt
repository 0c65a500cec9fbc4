-- A republication that rewrites only the shares of the candidates whose exams or periods differ
-- stores the right shares.
use Rattle.std.proofs.lemmas.Grind.{common_steps}
use Rattle.std.proofs.Common.{◌≡◌, ℕ, Bool, true, false, not, ◌&&◌, eqb, List, [], ◌∷◌, map, filter, Option, Some, None, refl, sym, ◌∙◌, ap, ap₂, subst, arith}
use Rattle.std.specs.Prelude.{IsPermutation}
use Rattle.std.proofs.lemmas.List.Sorted.{IsPermutation-trans, IsPermutation-sym, IsPermutation-append_right, IsPermutation-filter_both}
use Rattle.exam_lists.proofs.Chains.{chain_from_index, chain_filter, chain_map, index_from_chain}
use Rattle.std.proofs.lemmas.Bool.{not-true}
use Rattle.exam_lists.proofs.Filters.{map_filter_agree}
use Rattle.exam_lists.proofs.Tests.{any_map}
use Rattle.sqlite_trees.proofs.ListLemmas.{IsPermutation-filter, filter-map, map-map}
use Rattle.exam_model.specs.Enrolments.{IsAscending, has_number}
use Rattle.exam_model.specs.Instance.{Session}
use Rattle.exam_model.proofs.SameSet.{same_list}
use Rattle.exam_publish.specs.declared.seat_row.SeatRow.{SeatRow}
use Rattle.exam_publish.specs.Changed.{changed_students, has_row, is_changed, rows_of, same_rows, students_of}
use Rattle.exam_publish.specs.Rows.{RowBefore, RowsInOrder}
use Rattle.exam_publish.specs.Shares.{share_of, student_shares}
use Rattle.exam_publish.proofs.ChangedLemmas.{changed_has_row}
use Rattle.exam_publish.proofs.ListLemmas.{ascending_from_chain, chain_ascending, has_ascending, has_filter}
use Rattle.exam_publish.proofs.ShareLemmas.{same_share}
use Rattle.office_tables.specs.declared.tables.share_student.StudentShareRow.{StudentShareRow}
use Rattle.office_model.specs.Office.{Publication}
use Rattle.office_model.specs.Publishing.{publication_rows}
use Rattle.office_records.specs.SharesStored.{retimed_students, share_rows_of, share_rows_without, student_share_row, student_share_rows, student_shares_put, timed}

-- ---- the candidates who changed

-- whether there is a row
abbrev some_row : List SeatRow → Bool
some_row [] = false
some_row (r ∷ rs) = true

has_some : (rows : List SeatRow) (s : ℕ) → has_row rows s ≡ some_row (rows_of s rows)
has_some [] s = refl
has_some (r ∷ rs) s = grind (arith, common_steps, has_some rs s)

both_some : (rs qs : List SeatRow) → not (same_rows rs qs) ≡ false → some_row rs ≡ some_row qs
both_some [] [] h = refl
both_some [] (q ∷ qs) h = cc
both_some (r ∷ rs) [] h = cc
both_some (r ∷ rs) (q ∷ qs) h = refl

is_seated : (rows : List SeatRow) (s : ℕ) → has_number (students_of rows) s ≡ has_row rows s
is_seated rows s =
    has_ascending (map (λ (row : SeatRow). row.student) rows) s
    ∙ any_map (λ t. eqb t s) (λ (row : SeatRow). row.student) rows

module _ (old new : List SeatRow) where
  abbrev changed : List ℕ
  changed = changed_students old new

  abbrev has_changed : ℕ → Bool
  has_changed s = has_number changed s

  is_listed : (s : ℕ) → has_changed s ≡ is_changed old new s
  is_listed s = grind (arith, common_steps, has_filter, is_seated, changed_has_row)

  -- a candidate who didn't change has the same seats as before
  still_seated : (s : ℕ) (b : Bool) → is_changed old new s ≡ b
      → (not b && has_row old s) ≡ (not b && has_row new s)
  still_seated s true is = refl
  still_seated s false is =
      has_some old s ∙ both_some (rows_of s old) (rows_of s new) is ∙ sym (has_some new s)

  abbrev others : List SeatRow → List ℕ
  others rows = filter (λ s. not (has_changed s)) (students_of rows)

  has_others : (rows : List SeatRow) (s : ℕ)
      → has_number (others rows) s ≡ (not (is_changed old new s) && has_row rows s)
  has_others rows s =
      has_filter (λ t. not (has_changed t)) (students_of rows) s
      ∙ ap₂ (λ a b. not a && b) (is_listed s) (is_seated rows s)

  -- the others with a seat are the same as before
  same_others : others old ≡ others new
  same_others =
      same_list (others old) (others new) (ascends old) (ascends new)
      (λ s. has_others old s ∙ still_seated s (is_changed old new s) refl ∙ sym (has_others new s))
    where
      ascends : (rows : List SeatRow) → IsAscending (others rows)
      ascends rows = grind (arith, common_steps, ascending_from_chain, chain_filter, chain_ascending)

  -- ---- their shares

  module _ (I : Session) where
    abbrev row_for : List SeatRow → ℕ → StudentShareRow
    row_for rows s = student_share_row (s, share_of I.periods I.weights (rows_of s rows))

    rows_are : (rows : List SeatRow)
        → map student_share_row (student_shares I rows)
        ≡ map (row_for rows) (students_of rows)
    rows_are rows =
        map-map student_share_row (λ s. (s, share_of I.periods I.weights (rows_of s rows)))
        (students_of rows)

    -- the rows of the others are as before
    same_rows_for : (xs : List ℕ)
        → map (row_for old) (filter (λ s. not (has_changed s)) xs)
        ≡ map (row_for new) (filter (λ s. not (has_changed s)) xs)
    same_rows_for =
        map_filter_agree (row_for old) (row_for new) (λ s. not (has_changed s))
        (λ s stays. ap (λ share. student_share_row (s, share)) (same_share I old new s
        (sym (is_listed s) ∙ not-true (has_changed s) stays)))

    -- the rows that are left are those of the others
    left : (stored : List StudentShareRow)
        → IsPermutation stored (map (row_for old) (students_of old))
        → IsPermutation (share_rows_without changed stored)
        (share_rows_without changed (map (row_for new) (students_of new)))
    left stored are =
        subst (IsPermutation (share_rows_without changed stored))
        (filter-map (λ (row : StudentShareRow). not (has_changed row.student)) (row_for old)
        (students_of old)
        ∙ same_rows_for (students_of old)
        ∙ ap (map (row_for new)) same_others
        ∙ sym (filter-map (λ (row : StudentShareRow). not (has_changed row.student)) (row_for new)
        (students_of new)))
        (IsPermutation-filter (λ (row : StudentShareRow). not (has_changed row.student)) stored
        (map (row_for old) (students_of old)) are)

    pub put : (stored : List StudentShareRow)
        → IsPermutation stored (map (row_for old) (students_of old))
        → IsPermutation
        (student_shares_put changed (share_rows_of changed (map (row_for new) (students_of new)))
        stored)
        (map (row_for new) (students_of new))
    put stored are =
        let all = map (row_for new) (students_of new) in
        IsPermutation-trans _ _ _
        (IsPermutation-append_right (share_rows_of changed all) _ _ (left stored are))
        (IsPermutation-sym _ _
        (IsPermutation-filter_both (λ (row : StudentShareRow). has_changed row.student)
        (λ (row : StudentShareRow). not (has_changed row.student)) (λ row. refl) all))

rows_now_are : (I : Session) (published : Option Publication)
    → student_share_rows I published ≡ map student_share_row
    (student_shares I (publication_rows published))
rows_now_are I None = refl
rows_now_are I (Some p) = refl

-- ---- periods alone

-- rows without their rooms and seats are in the same order
pub timed_in_order : (rows : List SeatRow) → RowsInOrder rows → RowsInOrder (map timed rows)
timed_in_order rows up =
    index_from_chain RowBefore (map timed rows)
    (chain_map RowBefore timed rows (chain_from_index RowBefore rows up))

-- and give the same shares
timed_shares : (I : Session) (rows : List SeatRow)
    → student_shares I (map timed rows) ≡ student_shares I rows
timed_shares I rows = grind (arith, common_steps, map-map, filter-map)

-- the old shares of the candidates whose exams or periods differ, replaced by their new ones: the
-- shares of all
pub shares_put : (I : Session) (old : Option Publication) (new : Publication)
    (stored : List StudentShareRow) → IsPermutation stored (student_share_rows I old)
    → IsPermutation
    (student_shares_put (retimed_students (publication_rows old) new.rows)
    (share_rows_of (retimed_students (publication_rows old) new.rows)
    (student_share_rows I (Some new)))
    stored)
    (student_share_rows I (Some new))
shares_put I old new stored are =
    subst
    (λ (all : List StudentShareRow). IsPermutation
    (student_shares_put who (share_rows_of who all) stored) all)
    (sym (rows_said new.rows))
    (put was now I stored
    (subst (IsPermutation stored) (rows_now_are I old ∙ rows_said (publication_rows old)) are))
  where
    was : List SeatRow
    was = map timed (publication_rows old)

    now : List SeatRow
    now = map timed new.rows

    who : List ℕ
    who = changed_students was now

    rows_said : (rows : List SeatRow) → map student_share_row (student_shares I rows)
        ≡ map (row_for was now I (map timed rows)) (students_of (map timed rows))
    rows_said rows =
        ap (map student_share_row) (sym (timed_shares I rows))
        ∙ rows_are was now I (map timed rows)

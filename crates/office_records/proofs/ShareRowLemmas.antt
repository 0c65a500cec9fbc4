-- The shares of candidates, row by row.
use Rattle.std.proofs.Common.{◌≡◌, ℕ, ◌<◌, List, length, map, get_or, nat_cmp, All, sym, ◌∙◌, ap, arith}
use Rattle.std.specs.List.Sorted.{IsSortedByKey}
use Rattle.std.specs.Prelude.{IsPermutation}
use Rattle.std.proofs.lemmas.Cmp.{nat_cmp_total}
use Rattle.std.proofs.lemmas.List.{get_or-map, length-map}
use Rattle.exam_lists.proofs.Chains.{chain_unmap}
use Rattle.exam_lists.proofs.Orders.{less_from_lt}
use Rattle.sqlite_keyed.proofs.ListLemmas.{ascending-map}
use Rattle.exam_model.specs.Enrolments.{IsAscending}
use Rattle.exam_publish.proofs.ListLemmas.{chain_from_ascending}
use Rattle.exam_score.specs.Penalty.{PersonalPenalty}
use Rattle.office_tables.specs.declared.tables.share_student.StudentShareRow.{StudentShareRow}
use Rattle.office_records.specs.SharesStored.{IsShare, student_share_row}
use Rattle.office_records.proofs.OrderLemmas.{one_order}

abbrev Share : Type 0
Share = ℕ × PersonalPenalty

abbrev pub share_back : StudentShareRow → Share
share_back row = (
  row.student,
  record { row = row.in_row; day = row.in_day; spread = row.spread; night = row.night },
)

-- no row's share is beyond the limits
pub no_share_at : (rows : List StudentShareRow) (shares : List Share) → All IsShare shares
    → map student_share_row shares ≡ rows → (i : ℕ) (d : StudentShareRow) → i < length rows
    → ((share : Share) → IsShare share → student_share_row share ≡ get_or rows i d → ⊥) → ⊥
no_share_at rows shares all same i d within none =
    let long = length-map shares student_share_row in
    let inside : i < length shares
    = let size = ap length same in omega (arith, size, long, within) in
    none (get_or shares i (share_back d)) (all i (share_back d) inside)
    (sym (get_or-map student_share_row shares i (share_back d) d inside) ∙ ap (λ l. get_or l i d) same)

-- ---- sorted rows

pub sorted_shares : (found sorted : List StudentShareRow) (shares : List Share)
    → IsAscending (map (λ (share : Share). share.0) shares)
    → IsPermutation found (map student_share_row shares) → IsPermutation found sorted
    → IsSortedByKey (λ (row : StudentShareRow). row.student) nat_cmp sorted
    → sorted ≡ map student_share_row shares
sorted_shares found sorted shares up =
    one_order (λ (row : StudentShareRow). row.student) nat_cmp nat_cmp_total (λ m n. m < n) less_from_lt
    found (map student_share_row shares) sorted
    (ascending-map (λ (x : StudentShareRow) y. x.student < y.student) student_share_row shares
    (chain_unmap (λ x y. x < y) (λ (share : Share). share.0) shares
    (chain_from_ascending (map (λ (share : Share). share.0) shares) up)))

use Rattle.std.proofs.Common.{rules, ℕ, subst}
use Rattle.std.proofs.lemmas.Fn.{always_returns_same}
use Rattle.exam_publish.specs.declared.seat_row.SeatRow.{SeatRow}
use Rattle.exam_publish.specs.Groups.{AreSorted}
use Rattle.exam_publish.proofs.StudentLemmas.{are_sorted}
use Rattle.exam_publish.proofs.student_shares.by_student.Goals as goal

pub returns : goal.returns
returns c =
    let key : SeatRow → ℕ = λ row. row.student in
    subst (λ rows. AreSorted rows c.sort_by_key.new.self.items) c.in_ok-sorted.ensures.items
    (are_sorted c.in_ok-sorted.sorted.items c.sort_by_key.new.self.items
    c.in_ok-sort_by_key.ensures.permutation
    (c.in_ok-sort_by_key.ensures.sorted key (always_returns_same _ _ _ (λ a r f k. search rules)))
    (c.in_ok-sort_by_key.ensures.stable key (always_returns_same _ _ _ (λ a r f k. search rules))))

use Rattle.std.proofs.Common.{ℕ, rules, subst}
use Rattle.std.specs.Prelude.{IsPermutation}
use Rattle.std.proofs.lemmas.Fn.{always_returns_same}
use Rattle.office_tables.specs.declared.tables.share_student.StudentShareRow.{StudentShareRow}
use Rattle.office_records.proofs.ShareRowLemmas.{sorted_shares}
use Rattle.office_records.proofs.student_shares.students_in_order.Goals as goal

pub returns-clause-only : goal.returns-clause-only
returns-clause-only c shares up same =
    let sorted = c.sort_by_key.new.self.items in
    let key : StudentShareRow → ℕ = λ row. row.student in
    sorted_shares c.args.rows.now sorted shares up same
    (subst (λ l. IsPermutation l sorted) c.in_ok-sorted.ensures.items
    c.in_ok-sort_by_key.ensures.permutation)
    (c.in_ok-sort_by_key.ensures.sorted key (always_returns_same _ _ _ (λ a r f k. search rules)))

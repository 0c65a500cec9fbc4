use Rattle.std.specs.Prelude.{◌≡◌, ◌++◌, map, take}
use Rattle.exam_model.specs.Pairs.{pairs_at}
use Rattle.office_records.specs.TableRows.{enrol_row}
use Rattle.office_store.proofs.loading.add_rows.Given as goal

abbrev pub invariant-loop-student : goal.invariant-loop-student
invariant-loop-student l =
    map (λ it. it.row) l.rows.items
    ≡ map (λ it. it.row) l.fn.rows.items
    ++ map enrol_row (pairs_at l.exam (take l.student-index l.students))

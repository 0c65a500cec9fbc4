use Rattle.std.specs.Prelude.{◌≡◌, map, take}
use Rattle.exam_model.specs.Pairs.{pairs_of}
use Rattle.office_records.specs.TableRows.{enrol_row}
use Rattle.office_store.proofs.loading.enrol_rows.Given as goal

abbrev pub invariant-loop-number : goal.invariant-loop-number
invariant-loop-number l =
    map (λ it. it.row) l.rows.items ≡ map enrol_row (pairs_of (take l.number l.enrolments))

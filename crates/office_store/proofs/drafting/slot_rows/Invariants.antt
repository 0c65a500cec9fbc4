use Rattle.std.specs.Prelude.{◌≡◌, map, take}
use Rattle.office_records.specs.TableRows.{slots_from}
use Rattle.office_store.proofs.drafting.slot_rows.Given as goal

abbrev pub invariant-loop-exam : goal.invariant-loop-exam
invariant-loop-exam l =
    map (λ it. it.row) l.rows.items ≡ slots_from l.draft 0 (take l.exam l.timetable)

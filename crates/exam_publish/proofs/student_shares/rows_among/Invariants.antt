use Rattle.std.proofs.Common.{◌≡◌, take}
use Rattle.exam_publish.specs.Changed.{rows_among}
use Rattle.exam_publish.proofs.student_shares.rows_among.Given as goal

abbrev pub invariant-rows : goal.invariant-rows
invariant-rows l = l.own.items ≡ rows_among l.students (take l.row-index l.rows)
